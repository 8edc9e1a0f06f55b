-- Each item comes to the same whatever the panel has in the fields that are unset.
use Rattle.std.proofs.Common.{◌≡◌, ◌==◌, ◌++◌, ℕ, ℤ, Bool, true, false, cond, List, [], ◌∷◌, Option, Some, None, refl, ap, ◌∙◌}
use Rattle.pcl_items.specs.declared.pcl.command.Command.{Command}
use Rattle.pcl_items.specs.declared.pcl.command.Command.TheVariants as commands
use Rattle.pcl_items.specs.declared.pcl.command.DataCommand.TheVariants.{TransparentText, RasterRow}
use Rattle.pcl_items.specs.declared.frame.Handover.{Handover}
use Rattle.pcl_items.specs.declared.frame.Handover.TheVariants.{Previous, Current}
use Rattle.pcl_items.specs.declared.frame.Motion.{Motion}
use Rattle.pcl_items.specs.declared.frame.Motion.TheVariants.{Up, Down, Absolute, Relative}
use Rattle.pcl_items.specs.declared.frame.Setting.{Setting}
use Rattle.pcl_items.specs.declared.frame.Setting.TheVariants as settings
use Rattle.pcl_items.specs.Items.{Entry, Text, CarriageReturn, LineFeed, FormFeed, Reset, ClearMargins, HalfLineFeed, Parameterized}
use Rattle.pcl_items.specs.Items.{SymbolSet, DefaultFont, EnterFrame, LeaveFrame, Initialize, Set, Move, WithData, ExitLanguage, PjlLine}
use Rattle.pcl_items.specs.declared.number.Sign.{Sign}
use Rattle.pcl_items.specs.declared.number.Sign.TheVariants.{Absent, Plus, Minus}
use Rattle.pcl_items.specs.Escapes.Value.{Amount}
use Rattle.device_profile.specs.declared.field.Field.{Field}
use Rattle.device_profile.specs.declared.field.Field.TheVariants.{Size as SizeField, Orientation as OrientationField, Vmi, LineTerm}
use Rattle.device_profile.specs.declared.font.SymbolSet.{SymbolSet as Symbols}
use Rattle.device_profile.specs.declared.panel.Panel.{Panel}
use Rattle.device_profile.specs.Printer.{Printer}
use Rattle.page_env.specs.declared.motion.Feed.{Feed}
use Rattle.page_env.specs.declared.motion.Feed.TheVariants.{Line as WholeLine, HalfLine}
use Rattle.page_env.specs.declared.motion.LineTermination.{LineTermination as Termination}
use Rattle.page_env.specs.declared.cursor.Cursor.{Cursor}
use Rattle.page_env.specs.declared.page.FontParts.{FontParts}
use Rattle.page_env.specs.declared.page.PenPlace.{PenPlace}
use Rattle.page_env.specs.FontInForce.{font_reads}
use Rattle.page_env.specs.Settings.{Settings, State, start_state}
use Rattle.page_env.specs.Numbers.{whole_of}
use Rattle.page_env.specs.CursorPositioning.{move_x, move_y, move_x_decipoints, move_y_decipoints, move_columns, move_rows, push_cursor}
use Rattle.page_env.specs.CursorPositioning.{popped, pop_cursor, use_stack}
use Rattle.page_env.specs.Effect.{checking, first_unset, first_finding, TableLine, moving, reading, Transition, Step, Closes, Ends, Behind}
use Rattle.page_env.specs.Effect.{Controls, Effect, Goes, GoesThenCloses, GoesThenEnds, Fails, fails_or, judged, effect_of}
use Rattle.page_env.specs.Effect as effect
use Rattle.page_env.specs.Frames.{set_frame_anchor, enter_at_cursor, leave_at_pen, enter_frame, leave_frame}
use Rattle.page_env.specs.Macros.{control_line}
use Rattle.page_env.specs.Margins.{set_top_margin, set_text_length, set_left_margin, set_right_margin, clear_margins}
use Rattle.page_env.specs.Motion.{at_home, fed_to, is_past_bottom, feed_down, feed_by, carriage_return, return_with, before_feed}
use Rattle.page_env.specs.Motion.{line_termination}
use Rattle.page_env.specs.PageControl.{set_source, source_checks, size_checks, set_size, orientation_checks, set_orientation}
use Rattle.page_env.specs.JobControl.{sides_checks, set_sides}
use Rattle.page_env.specs.Fonts.{set_symbol_set, default_font}
use Rattle.page_env.specs.declared.finding.Finding.TheVariants.{Unset}
use Rattle.page_env.specs.Pens.{initialize, set_pen, pen_target, draw, carry_pen, motion_step, move_pen}
use Rattle.page_env.specs.Places.{page_reads, page_and_line_reads, column_reads, vertical_reads}
use Rattle.page_env.specs.Rasters.{start_raster, skip_rows, print_row}
use Rattle.page_env.specs.Rectangles.{fill_rectangle}
use Rattle.page_env.specs.Table.{command_transition}
use Rattle.page_env.specs.Text.{character, space, transparent_space, text_reads, print_byte, print_transparent}
use Rattle.page_env.specs.AnyPanel.{settings_with, state_with, GoesAlike, IsAlikeItem, IsAlikeControl, IsAlikeByte, IsAlikeMove}
use Rattle.page_env.proofs.AlikeFacts.{IsAlike, same_first_unset, behind_reads, step_alike, ends_alike, closes_alike, plainly_alike, paged}
use Rattle.page_env.proofs.AlikeFacts.{spaced, ended_so, page_set, line_set, termination_set, at_place, place_set, place_alone, faced}
use Rattle.page_env.proofs.AlikeFacts.{with_parts_of, all_parts, font_set, with_hmi, columns_set, either_line, either, fails_alike}

module _ (printer : Printer) (panel : Panel) where
  abbrev there : State → State
  there s = state_with panel s

  -- a line by its state: the same at the panel but for the state
  abbrev Same : (State → TableLine) → State → Type 0
  Same line s = line (there s) ≡ record (line s) { state = there (line s).state }

  -- what reads the page alone
  module _ (s : State) where
    by_page : (line : State → TableLine) → ((t : State) → Same line (paged t)) → first_unset s.settings page_reads ≡ None → Same line s
    unfolding page_reads
    by_page line h set = page_set (Same line) s [] set (λ none. h s)

    -- the page, and how far lines are apart
    by_line : (P : State → Type 0) → ((t : State) → P (spaced (paged t))) → first_unset s.settings page_and_line_reads ≡ None → P s
    unfolding page_and_line_reads
    by_line P h set = page_set P s (Vmi ∷ []) set (λ rest. line_set P (paged s) [] rest (λ none. h s))

    -- the vertical place
    by_place : (line : State → TableLine) → ((t : State) → Same line (spaced (at_place t None))) →
        ((t : State) (y : ℤ) → Same line (at_place t (Some y))) → first_unset s.settings (vertical_reads s.cursor.y) ≡ None → Same line s
    by_place line home number set = place_alone (Same line) s set (home s) (number s)

    -- the page and the vertical place
    by_page_and_place : (line : State → TableLine) → ((t : State) → Same line (spaced (at_place (paged t) None))) →
        ((t : State) (y : ℤ) → Same line (at_place (paged t) (Some y))) →
        first_unset s.settings (SizeField ∷ OrientationField ∷ vertical_reads s.cursor.y) ≡ None → Same line s
    by_page_and_place line home number set =
        page_set (Same line) s (vertical_reads s.cursor.y) set (λ rest. place_alone (Same line) (paged s) rest (home s) (number s))

  -- ---- lines

  module _ (s : State) where
    -- a line that reads nothing
    plain : (line : State → TableLine) → Same line s → IsAlike panel s (line s) (line (there s))
    plain line same = plainly_alike panel s (line s) (line (there s)) same

    draw_alike : (to : PenPlace) → IsAlike panel s (draw printer s to) (draw printer (there s) to)
    draw_alike to = record { checks_before = refl; reads = refl; same = by_page s (λ t. draw printer t to) (λ t. refl) }

    leave_at_pen_alike : IsAlike panel s (leave_at_pen printer s) (leave_at_pen printer (there s))
    leave_at_pen_alike = record { checks_before = refl; reads = refl; same = by_page s (λ t. leave_at_pen printer t) (λ t. refl) }

    move_x_alike : (n : Amount) → IsAlike panel s (move_x printer s n) (move_x printer (there s) n)
    move_x_alike n = record { checks_before = refl; reads = refl; same = by_page s (λ t. move_x printer t n) (λ t. refl) }

    move_x_decipoints_alike : (n : Amount) → IsAlike panel s (move_x_decipoints printer s n) (move_x_decipoints printer (there s) n)
    move_x_decipoints_alike n = record {
      checks_before = refl;
      reads = refl;
      same = by_page s (λ t. move_x_decipoints printer t n) (λ t. refl);
    }

    top_margin_alike : (n : Amount) → IsAlike panel s (set_top_margin printer s n) (set_top_margin printer (there s) n)
    top_margin_alike n = record {
      checks_before = refl;
      reads = refl;
      same = by_line s (Same (λ t. set_top_margin printer t n)) (λ t. refl);
    }

    text_length_alike : (n : Amount) → IsAlike panel s (set_text_length printer s n) (set_text_length printer (there s) n)
    text_length_alike n = record {
      checks_before = refl;
      reads = refl;
      same = by_line s (Same (λ t. set_text_length printer t n)) (λ t. refl);
    }

    move_rows_alike : (n : Amount) → IsAlike panel s (move_rows printer s n) (move_rows printer (there s) n)
    move_rows_alike n = record { checks_before = refl; reads = refl; same = by_line s (Same (λ t. move_rows printer t n)) (λ t. refl) }

    by_columns : (line : State → TableLine) →
        ((t : State) (parts : FontParts) → Same line (faced (with_parts_of (with_hmi (paged t) None) parts))) →
        ((t : State) (symbol_set : Symbols) (spacing pitch height style : ℕ) (weight : ℤ) (typeface : ℕ) →
        Same line (with_parts_of (with_hmi (paged t) None) (all_parts symbol_set spacing pitch height style weight typeface))) →
        ((t : State) (hmi : ℕ) → Same line (with_hmi (paged t) (Some hmi))) →
        first_unset s.settings (SizeField ∷ OrientationField ∷ column_reads s.settings.job) ≡ None → Same line s
    by_columns line known all number set =
        page_set (Same line) s (column_reads s.settings.job) set
        (λ rest. columns_set (Same line) (paged s) rest (known s) (all s) (number s))

    left_margin_alike : (n : Amount) → IsAlike panel s (set_left_margin printer s n) (set_left_margin printer (there s) n)
    left_margin_alike n = record {
      checks_before = refl;
      reads = refl;
      same = by_columns (λ t. set_left_margin printer t n) (λ t parts. refl) (λ t a b c d e w f. refl) (λ t hmi. refl);
    }

    right_margin_alike : (n : Amount) → IsAlike panel s (set_right_margin printer s n) (set_right_margin printer (there s) n)
    right_margin_alike n = record {
      checks_before = refl;
      reads = refl;
      same = by_columns (λ t. set_right_margin printer t n) (λ t parts. refl) (λ t a b c d e w f. refl) (λ t hmi. refl);
    }

    move_columns_alike : (n : Amount) → IsAlike panel s (move_columns printer s n) (move_columns printer (there s) n)
    move_columns_alike n = record {
      checks_before = refl;
      reads = refl;
      same = by_columns (λ t. move_columns printer t n) (λ t parts. refl) (λ t a b c d e w f. refl) (λ t hmi. refl);
    }

    -- a vertical move, without a sign or with one
    vertical_alike : (ten_thousandths : ℕ) (sign : Sign) → let n : Amount =
        record { sign = sign; ten_thousandths = ten_thousandths } in IsAlike panel s (move_y printer s n) (move_y printer (there s) n)
    vertical_alike k Absent = record {
      checks_before = refl;
      reads = refl;
      same = λ set. page_set (Same (λ t. move_y printer t (record { sign = Absent; ten_thousandths = k }))) s [] set (λ none. refl);
    }
    vertical_alike k Plus = record {
      checks_before = refl;
      reads = refl;
      same = by_page_and_place s (λ t. move_y printer t (record { sign = Plus; ten_thousandths = k })) (λ t. refl) (λ t y. refl);
    }
    vertical_alike k Minus = record {
      checks_before = refl;
      reads = refl;
      same = by_page_and_place s (λ t. move_y printer t (record { sign = Minus; ten_thousandths = k })) (λ t. refl) (λ t y. refl);
    }

    vertical_decipoints_alike : (ten_thousandths : ℕ) (sign : Sign) → let n : Amount =
        record { sign = sign; ten_thousandths = ten_thousandths } in IsAlike panel s (move_y_decipoints printer s n)
        (move_y_decipoints printer (there s) n)
    vertical_decipoints_alike k Absent = record {
      checks_before = refl;
      reads = refl;
      same =
          λ set. page_set (Same (λ t. move_y_decipoints printer t (record { sign = Absent; ten_thousandths = k }))) s [] set (λ none. refl);
    }
    vertical_decipoints_alike k Plus = record {
      checks_before = refl;
      reads = refl;
      same = by_page_and_place s (λ t. move_y_decipoints printer t (record { sign = Plus; ten_thousandths = k })) (λ t. refl) (λ t y. refl);
    }
    vertical_decipoints_alike k Minus = record {
      checks_before = refl;
      reads = refl;
      same =
          by_page_and_place s (λ t. move_y_decipoints printer t (record { sign = Minus; ten_thousandths = k })) (λ t. refl) (λ t y. refl);
    }

    push_alike : (n : Amount) → IsAlike panel s (push_cursor s n) (push_cursor (there s) n)
    push_alike n = record { checks_before = refl; reads = refl; same = by_place s (λ t. push_cursor t n) (λ t. refl) (λ t y. refl) }

    anchor_alike : (n : Amount) → IsAlike panel s (set_frame_anchor s n) (set_frame_anchor (there s) n)
    anchor_alike n = record { checks_before = refl; reads = refl; same = by_place s (λ t. set_frame_anchor t n) (λ t. refl) (λ t y. refl) }

    fill_alike : (n : Amount) → IsAlike panel s (fill_rectangle printer s n) (fill_rectangle printer (there s) n)
    fill_alike n =
        record {
          checks_before = refl;
          reads = refl;
          same = by_page_and_place s (λ t. fill_rectangle printer t n) (λ t. refl)
              (λ t y. refl);
        }

    start_alike : (n : Amount) → IsAlike panel s (start_raster s n) (start_raster (there s) n)
    start_alike n = record {
      checks_before = refl;
      reads = refl;
      same = by_page_and_place s (λ t. start_raster t n) (λ t. refl) (λ t y. refl);
    }

    skip_alike : (n : Amount) → IsAlike panel s (skip_rows printer s n) (skip_rows printer (there s) n)
    skip_alike n = record {
      checks_before = refl;
      reads = refl;
      same = by_page_and_place s (λ t. skip_rows printer t n) (λ t. refl) (λ t y. refl);
    }

    row_alike : (bytes : List ℕ) → IsAlike panel s (print_row printer s bytes) (print_row printer (there s) bytes)
    row_alike bytes =
        record { checks_before = refl; reads = refl; same = by_page_and_place s (λ t. print_row printer t bytes) (λ t. refl) (λ t y. refl) }

    enter_alike : IsAlike panel s (enter_at_cursor printer s) (enter_at_cursor printer (there s))
    enter_alike =
        record { checks_before = refl; reads = refl; same = by_page_and_place s (λ t. enter_at_cursor printer t) (λ t. refl) (λ t y. refl) }

    popped_same : (stack : List Cursor) → popped (there s) stack ≡ there (popped s stack)
    popped_same [] = refl
    popped_same (cursor ∷ stack) = refl

    pop_alike : (n : Amount) → IsAlike panel s (pop_cursor s n) (pop_cursor (there s) n)
    pop_alike n = plain (λ t. pop_cursor t n) (ap (λ t. record (pop_cursor s n) { state = t }) (popped_same s.stack))

    -- ---- text

    abbrev Known : (State → TableLine) → State → Type 0
    Known line t = (parts : FontParts) → Same line (faced (with_parts_of t parts))

    abbrev AllSet : (State → TableLine) → State → Type 0
    AllSet line t =
        (symbol_set : Symbols) (spacing pitch height style : ℕ) (weight : ℤ) (typeface : ℕ) →
        Same line (with_parts_of t (all_parts symbol_set spacing pitch height style weight typeface))

    by_text : (P : State → Type 0) (others : List Field) → first_unset s.settings (text_reads s.cursor.y others) ≡ None →
        (first_unset (spaced (at_place (paged s) None)).settings others ≡ None → P (spaced (at_place (paged s) None))) →
        ((y : ℤ) → first_unset (at_place (paged s) (Some y)).settings others ≡ None → P (at_place (paged s) (Some y))) → P s
    unfolding text_reads
    by_text P others set home number =
        page_set P s (vertical_reads s.cursor.y ++ others) set (λ rest. place_set P (paged s) others rest home number)

    by_font : (line : State → TableLine) → ((t : State) → Known line (spaced (at_place (paged t) None))) →
        ((t : State) → AllSet line (spaced (at_place (paged t) None))) →
        ((t : State) (y : ℤ) → Known line (at_place (paged t) (Some y))) →
        ((t : State) (y : ℤ) → AllSet line (at_place (paged t) (Some y))) →
        first_unset s.settings (text_reads s.cursor.y (font_reads s.settings.job.font)) ≡ None → Same line s
    by_font line home_known home_set known all set =
        by_text (Same line) (font_reads s.settings.job.font) set
        (λ rest. font_set (Same line) (spaced (at_place (paged s) None)) rest (home_known s) (home_set s))
        (λ y rest. font_set (Same line) (at_place (paged s) (Some y)) rest (known s y) (all s y))

    character_alike : (code : ℕ) → IsAlike panel s (character printer s code) (character printer (there s) code)
    character_alike code = record {
      checks_before = refl;
      reads = refl;
      same =
          by_font (λ t. character printer t code) (λ t parts. refl) (λ t a b c d e w f. refl) (λ t y parts. refl)
          (λ t y a b c d e w f. refl);
    }

    transparent_space_alike : IsAlike panel s (transparent_space printer s) (transparent_space printer (there s))
    transparent_space_alike = record {
      checks_before = refl;
      reads = refl;
      same =
          by_font (λ t. transparent_space printer t) (λ t parts. refl) (λ t a b c d e w f. refl) (λ t y parts. refl)
          (λ t y a b c d e w f. refl);
    }

    space_alike : IsAlike panel s (space printer s) (space printer (there s))
    space_alike = record {
      checks_before = refl;
      reads = refl;
      same = λ set. by_text (Same (λ t. space printer t)) (column_reads s.settings.job) set
          (λ rest. columns_set (Same (λ t. space printer t)) (spaced (at_place (paged s) None)) rest (λ parts. refl)
          (λ a b c d e w f. refl) (λ hmi. refl))
          (λ y rest. columns_set (Same (λ t. space printer t)) (at_place (paged s) (Some y)) rest (λ parts. refl)
          (λ a b c d e w f. refl) (λ hmi. refl));
    }

    byte_alike : (code : ℕ) → IsAlike panel s (print_byte printer s code) (print_byte printer (there s) code)
    byte_alike code = either_line panel s (code == 32) _ _ _ _ space_alike (character_alike code)

    transparent_alike : (code : ℕ) → IsAlike panel s (print_transparent printer s code) (print_transparent printer (there s) code)
    transparent_alike code = either_line panel s (code == 32) _ _ _ _ transparent_space_alike (character_alike code)

    -- ---- frames

    leave_alike : (handover : Handover) → IsAlike panel s (leave_frame printer s handover) (leave_frame printer (there s) handover)
    leave_alike Previous = plain (λ t. leave_frame printer t Previous) refl
    leave_alike Current =
        either_line panel s s.in_frame (leave_at_pen printer s) (moving s) (leave_at_pen printer (there s))
        (moving (there s)) leave_at_pen_alike (plain moving refl)

    enter_frame_alike : (handover : Handover) → IsAlike panel s (enter_frame printer s handover) (enter_frame printer (there s) handover)
    enter_frame_alike Previous = plain (λ t. enter_frame printer t Previous) refl
    enter_frame_alike Current = enter_alike

    setting_alike : (setting : Setting) (n : ℕ) → IsAlike panel s (set_pen s setting n) (set_pen (there s) setting n)
    setting_alike settings.Pen n = plain (λ t. set_pen t settings.Pen n) refl
    setting_alike settings.Width n = plain (λ t. set_pen t settings.Width n) refl

    motion_alike : (motion : Motion) → IsAlike panel s (motion_step printer s motion) (motion_step printer (there s) motion)
    motion_alike Up = plain (λ t. motion_step printer t Up) refl
    motion_alike Absolute = plain (λ t. motion_step printer t Absolute) refl
    motion_alike Relative = plain (λ t. motion_step printer t Relative) refl
    motion_alike Down =
        let at : PenPlace = s.settings.job.pen.place in
        either_line panel s s.settings.job.pen.is_down (moving s) (draw printer s at) (moving (there s)) (draw printer (there s) at)
        (plain moving refl) (draw_alike at)

    pen_alike : (to : ℤ × ℤ) → IsAlike panel s (move_pen printer s to) (move_pen printer (there s) to)
    pen_alike to =
        let target = pen_target s.settings.job.pen to in
        either_line panel s s.settings.job.pen.is_down (draw printer s target) (carry_pen s target) (draw printer (there s) target)
        (carry_pen (there s) target) (draw_alike target) (plain (λ t. carry_pen t target) refl)

  -- ---- feeds

  -- a feed that reads what is unset finds that, wherever it would lead
  feed_unset : (u : Settings) (s : State) (y : ℤ) (b : Bool) (field : Field) → first_unset u page_and_line_reads ≡ Some field →
      effect_of u (cond b (Closes (reading s page_and_line_reads) false at_home) (Step (feed_down printer s y))) ≡ Fails (Unset field)
  feed_unset u s y true field set = ap (λ unset. effect.unset_or unset (GoesThenCloses s false at_home)) set
  feed_unset u s y false field set =
      ap
      (λ unset. effect.unset_or unset (fails_or (first_finding (feed_down printer s y).checks_after)
      (Goes (feed_down printer s y).state []))) set

  -- where all that it reads is known, it leads to the same
  feed_known : (by : Feed) (s : State) → let t =
      spaced (paged s) in GoesAlike panel (effect_of t.settings (feed_by printer t by))
      (effect_of (settings_with panel t.settings) (feed_by printer (there t) by))
  unfolding page_and_line_reads
  feed_known by s =
      let t : State = spaced (paged s) in
      let y : ℤ = fed_to t by in
      either panel t.settings (settings_with panel t.settings) (is_past_bottom printer t y)
      (Closes (reading t page_and_line_reads) false at_home) (Step (feed_down printer t y))
      (Closes (reading (there t) page_and_line_reads) false at_home) (Step (feed_down printer (there t) y))
      (closes_alike panel t (reading t page_and_line_reads) (reading (there t) page_and_line_reads)
      (plainly_alike panel t _ _ refl) false at_home at_home (λ u. refl))
      (step_alike panel t (feed_down printer t y) (feed_down printer (there t) y) (plainly_alike panel t _ _ refl))

  feed_alike : (by : Feed) (s : State) →
      GoesAlike panel (effect_of s.settings (feed_by printer s by))
      (effect_of (settings_with panel s.settings) (feed_by printer (there s) by))
  feed_alike by s = by_case (first_unset s.settings page_and_line_reads) refl
    where
      by_case : (unset : Option Field) → first_unset s.settings page_and_line_reads ≡ unset →
          GoesAlike panel (effect_of s.settings (feed_by printer s by))
          (effect_of (settings_with panel s.settings) (feed_by printer (there s) by))
      by_case (Some field) is =
          fails_alike panel (Unset field) _ _
          (feed_unset s.settings s (fed_to s by) (is_past_bottom printer s (fed_to s by)) field is)
          (feed_unset (settings_with panel s.settings) (there s) (fed_to (there s) by)
          (is_past_bottom printer (there s) (fed_to (there s) by)) field (same_first_unset panel s.settings page_and_line_reads ∙ is))
      by_case None is =
          by_line s
          (λ t. GoesAlike panel (effect_of t.settings (feed_by printer t by))
          (effect_of (settings_with panel t.settings) (feed_by printer (there t) by)))
          (feed_known by) is

  fed_behind : (b : Bool) (s : State) →
      GoesAlike panel (effect_of s.settings (feed_by printer (cond b (carriage_return s) s) WholeLine))
      (effect_of (settings_with panel s.settings) (feed_by printer (cond b (carriage_return (there s)) (there s)) WholeLine))
  fed_behind true s = feed_alike WholeLine (carriage_return s)
  fed_behind false s = feed_alike WholeLine s

  ended_behind : (b : Bool) (s : State) →
      GoesAlike panel (effect_of s.settings (Ends (moving (cond b (carriage_return s) s))))
      (effect_of (settings_with panel s.settings) (Ends (moving (cond b (carriage_return (there s)) (there s)))))
  ended_behind true s =
      ends_alike panel s _ _ (plainly_alike panel s (moving (carriage_return s)) (moving (carriage_return (there s))) refl)
  ended_behind false s = ends_alike panel s _ _ (plainly_alike panel s (moving s) (moving (there s)) refl)

  returned : (b : Bool) (s : State) →
      GoesAlike panel (effect_of s.settings (cond b (feed_by printer (carriage_return s) WholeLine) (Step (moving (carriage_return s)))))
      (effect_of (settings_with panel s.settings)
      (cond b (feed_by printer (carriage_return (there s)) WholeLine) (Step (moving (carriage_return (there s))))))
  returned b s =
      either panel s.settings (settings_with panel s.settings) b _ _ _ _ (feed_alike WholeLine (carriage_return s))
      (step_alike panel s _ _ (plainly_alike panel s (moving (carriage_return s)) (moving (carriage_return (there s))) refl))

  -- what reads the line termination first
  behind_termination : (m : Termination → State → Transition) →
      ((t : State) → let term =
      line_termination t in GoesAlike panel (effect_of t.settings (m term t))
      (effect_of (settings_with panel t.settings) (m term (there t)))) →
      (s : State) →
      GoesAlike panel (effect_of s.settings (Behind (LineTerm ∷ []) (m (line_termination s) s)))
      (effect_of (settings_with panel s.settings) (Behind (LineTerm ∷ []) (m (line_termination (there s)) (there s))))
  behind_termination m h s =
      behind_reads panel (first_unset s.settings (LineTerm ∷ [])) (first_unset (settings_with panel s.settings) (LineTerm ∷ [])) _ _
      (same_first_unset panel s.settings (LineTerm ∷ []))
      (λ set. termination_set
      (λ t. GoesAlike panel (effect_of t.settings (m (line_termination t) t))
      (effect_of (settings_with panel t.settings) (m (line_termination (there t)) (there t))))
      s set (h (ended_so s)))

  -- ---- commands

  tray_same : (b unset : Bool) (chosen own tray : ℕ) →
      cond b (cond unset chosen own) tray ≡ cond (cond b unset false) chosen (cond b own tray)
  tray_same true unset chosen own tray = refl
  tray_same false unset chosen own tray = refl

  source_same : (n : Amount) (t : State) → set_source (there t) n ≡ there (set_source t n)
  source_same n t =
      let u : State = there (set_source t n) in
      ap (λ tray. record u { settings = record u.settings { fields = record u.settings.fields { tray = tray } } })
      (tray_same (whole_of n == 0) t.settings.unset.tray panel.tray t.settings.fields.tray (whole_of n))

  stack_alike : (n : Amount) (s : State) → IsAlike panel s (use_stack s n) (use_stack (there s) n)
  stack_alike n s =
      either_line panel s (whole_of n == 0) (push_cursor s n) (pop_cursor s n) (push_cursor (there s) n) (pop_cursor (there s) n)
      (push_alike s n) (pop_alike s n)

  module _ (defaults : Settings) where
    abbrev CommandAlike : Command → Amount → State → Type 0
    CommandAlike command n s =
        GoesAlike panel (effect_of s.settings (command_transition printer defaults s command n))
        (effect_of (settings_with panel s.settings) (command_transition printer (settings_with panel defaults) (there s) command n))

    -- a setting, which reads nothing
    sets : (line : State → TableLine) (s : State) → Same line s →
        GoesAlike panel (effect_of s.settings (Step (line s))) (effect_of (settings_with panel s.settings) (Step (line (there s))))
    sets line s same = step_alike panel s (line s) (line (there s)) (plainly_alike panel s (line s) (line (there s)) same)

    -- a line
    steps : (s : State) (line line' : TableLine) → IsAlike panel s line line' →
        GoesAlike panel (effect_of s.settings (Step line)) (effect_of (settings_with panel s.settings) (Step line'))
    steps s line line' alike = step_alike panel s line line' alike

    -- a change behind the closing of the page
    closes : (line : State → TableLine) (change change' : State → State) (s : State) → Same line s →
        ((t : State) → change' (there t) ≡ there (change t)) →
        GoesAlike panel (effect_of s.settings (Closes (line s) true change))
        (effect_of (settings_with panel s.settings) (Closes (line (there s)) true change'))
    closes line change change' s same h =
        closes_alike panel s (line s) (line (there s)) (plainly_alike panel s (line s) (line (there s)) same) true change change' h

    -- the line of a step
    abbrev line_in : Transition → TableLine
    line_in (Step line) = line
    line_in (Closes line sets_paper change) = line
    line_in (Ends line) = line
    line_in (Behind reads transition) = line_in transition
    line_in (Controls s n) = moving s

    command_alike : (command : Command) (n : Amount) (s : State) → CommandAlike command n s
    command_alike commands.Sides n s =
        closes (λ t. checking t (sides_checks printer n)) (λ t. set_sides t n) (λ t. set_sides t n) s refl (λ t. refl)
    command_alike commands.Source n s =
        closes (λ t. checking t (source_checks printer n)) (λ t. set_source t n) (λ t. set_source t n) s refl (source_same n)
    command_alike commands.PageSize n s =
        closes (λ t. checking t (size_checks printer n)) (λ t. set_size t n) (λ t. set_size t n) s refl (λ t. refl)
    command_alike commands.Orientation n s =
        closes (λ t. checking t (orientation_checks printer n)) (λ t. set_orientation defaults t n)
        (λ t. set_orientation (settings_with panel defaults) t n) s refl (λ t. refl)
    command_alike commands.TopMargin n s = steps s _ _ (top_margin_alike s n)
    command_alike commands.TextLength n s = steps s _ _ (text_length_alike s n)
    command_alike commands.LeftMargin n s = steps s _ _ (left_margin_alike s n)
    command_alike commands.RightMargin n s = steps s _ _ (right_margin_alike s n)
    command_alike commands.Column n s = steps s _ _ (move_columns_alike s n)
    command_alike commands.Row n s = steps s _ _ (move_rows_alike s n)
    command_alike commands.HorizontalDecipoints n s = steps s _ _ (move_x_decipoints_alike s n)
    command_alike commands.VerticalDecipoints n s = steps s _ _ (vertical_decipoints_alike s n.ten_thousandths n.sign)
    command_alike commands.HorizontalUnits n s = steps s _ _ (move_x_alike s n)
    command_alike commands.VerticalUnits n s = steps s _ _ (vertical_alike s n.ten_thousandths n.sign)
    command_alike commands.CursorStack n s = steps s _ _ (stack_alike n s)
    command_alike commands.MacroControl n s = (refl, refl)
    command_alike commands.FillRectangle n s = steps s _ _ (fill_alike s n)
    command_alike commands.PictureFrameAnchor n s = steps s _ _ (anchor_alike s n)
    command_alike commands.StartRaster n s = steps s _ _ (start_alike s n)
    command_alike commands.RasterOffset n s = steps s _ _ (skip_alike s n)
    -- all others read nothing
    command_alike command n s = sets (λ t. line_in (command_transition printer defaults t command n)) s refl

    pub item_alike : (item : Entry) → IsAlikeItem printer panel defaults item
    item_alike (Text code) s = steps s _ _ (byte_alike s code)
    item_alike CarriageReturn s = behind_termination (return_with printer) (λ t. returned (line_termination t).feeds_at_return t) s
    item_alike LineFeed s =
        behind_termination (λ term t. feed_by printer (before_feed term t) WholeLine)
        (λ t. fed_behind (line_termination t).returns_at_feed t) s
    item_alike FormFeed s =
        behind_termination (λ term t. Ends (moving (before_feed term t))) (λ t. ended_behind (line_termination t).returns_at_feed t) s
    item_alike Reset s =
        closes moving (λ t. start_state t.items_left defaults)
        (λ t. start_state t.items_left (settings_with panel defaults)) s refl (λ t. refl)
    item_alike ExitLanguage s =
        closes moving (λ t. start_state t.items_left defaults)
        (λ t. start_state t.items_left (settings_with panel defaults)) s refl (λ t. refl)
    item_alike ClearMargins s = sets clear_margins s refl
    item_alike HalfLineFeed s = feed_alike HalfLine s
    item_alike (Parameterized command n) s = command_alike command n s
    item_alike (SymbolSet n letter) s = sets (λ t. set_symbol_set t n letter) s refl
    item_alike DefaultFont s = sets default_font s refl
    item_alike (EnterFrame handover) s = steps s _ _ (enter_frame_alike s handover)
    item_alike (LeaveFrame handover) s = steps s _ _ (leave_alike s handover)
    item_alike Initialize s = sets initialize s refl
    item_alike (Set setting n) s = steps s _ _ (setting_alike s setting n)
    item_alike (Move motion to) s = steps s _ _ (motion_alike s motion)
    item_alike (WithData TransparentText bytes) s = sets moving s refl
    item_alike (WithData RasterRow bytes) s = steps s _ _ (row_alike s bytes)
    item_alike (PjlLine line) s = sets moving s refl

  pub transparent_byte_alike : (code : ℕ) → IsAlikeByte printer panel code
  transparent_byte_alike code s = step_alike panel s _ _ (transparent_alike s code)

  pub move_alike : (to : ℤ × ℤ) → IsAlikeMove printer panel to
  move_alike to s = step_alike panel s _ _ (pen_alike s to)

pub control_alike : (panel : Panel) → IsAlikeControl panel
control_alike panel s known in_macro control =
    step_alike panel s (control_line known in_macro control s) (control_line known in_macro control (state_with panel s))
    (plainly_alike panel s _ _ refl)
