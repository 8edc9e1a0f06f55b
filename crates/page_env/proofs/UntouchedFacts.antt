-- What each item leaves untouched, and what each line reads of the font.
use Rattle.std.proofs.Common.{◌≡◌, ◌==◌, ℕ, ℤ, Bool, true, false, cond, List, [], ◌∷◌, Option, Some, None, refl, ap, sym, ◌∙◌, is_none}
use Rattle.std.proofs.Common.{subst}
use Rattle.std.proofs.lemmas.Bool.{false≢true}
use Rattle.pcl_items.specs.declared.pcl.command.Command.{Command}
use Rattle.pcl_items.specs.declared.pcl.command.Command.TheVariants as commands
use Rattle.pcl_items.specs.declared.pcl.command.DataCommand.TheVariants.{TransparentText, RasterRow}
use Rattle.pcl_items.specs.declared.frame.Handover.{Handover}
use Rattle.pcl_items.specs.declared.frame.Handover.TheVariants.{Previous, Current}
use Rattle.pcl_items.specs.declared.frame.Motion.{Motion}
use Rattle.pcl_items.specs.declared.frame.Motion.TheVariants.{Up, Down, Absolute, Relative}
use Rattle.pcl_items.specs.declared.frame.Setting.{Setting}
use Rattle.pcl_items.specs.declared.frame.Setting.TheVariants as settings
use Rattle.pcl_items.specs.Items.{Entry, Text, CarriageReturn, LineFeed, FormFeed, Reset, ClearMargins, HalfLineFeed, Parameterized}
use Rattle.pcl_items.specs.Items.{SymbolSet, DefaultFont, EnterFrame, LeaveFrame, Initialize, Set, Move, WithData, ExitLanguage, PjlLine}
use Rattle.pcl_items.specs.Escapes.Value.{Amount}
use Rattle.device_profile.specs.Printer.{Printer}
use Rattle.page_env.specs.declared.motion.Feed.{Feed}
use Rattle.page_env.specs.declared.motion.Feed.TheVariants.{Line as WholeLine, HalfLine}
use Rattle.page_env.specs.declared.cursor.Cursor.{Cursor}
use Rattle.page_env.specs.Settings.{Flags, Settings, State}
use Rattle.page_env.specs.Numbers.{whole_of, is_absent}
use Rattle.page_env.specs.CursorPositioning.{push_cursor, popped, pop_cursor, relative_reads}
use Rattle.page_env.specs.Effect.{TableLine, moving, reading, Transition, Step, Closes}
use Rattle.page_env.specs.Frames.{leave_at_pen, enter_frame, leave_frame}
use Rattle.page_env.specs.Motion.{at_home, fed_to, is_past_bottom, feed_down, feed_by, carriage_return, line_termination}
use Rattle.page_env.specs.Pens.{set_pen, pen_target, draw, carry_pen, motion_step, move_pen}
use Rattle.page_env.specs.Places.{page_reads, page_and_line_reads, vertical_reads, column_reads}
use Rattle.page_env.specs.Text.{character, space, transparent_space, text_reads, print_transparent}
use Rattle.page_env.specs.Table.{command_transition, transition_of}
use Rattle.page_env.specs.Text.{print_byte}
use Rattle.page_env.specs.CursorPositioning.{use_stack}
use Rattle.page_env.specs.Untouched.{PartFlags, Untouched, all_untouched, untouched_behind, is_macro_control, unset_where, SaysUntouched}
use Rattle.page_env.specs.Untouched.{names_font, IsReadAlike, LineLeaves, TransitionLeaves, LeavesItsUntouched, ByteSetsNothing}
use Rattle.page_env.specs.Untouched.{MoveSetsNothing}
use Rattle.device_profile.specs.declared.field.Field.{Field}
use Rattle.device_profile.specs.declared.field.Field.TheVariants.{Size, Orientation as OrientationField, Font}
use Rattle.page_env.specs.FontInForce.{are_set, font_reads}
use Rattle.page_env.specs.Sound.{plain_settings, plain_state}
use Rattle.page_env.specs.declared.page.FontParts.{FontParts}
use Rattle.page_env.specs.declared.page.JobSettings.{JobSettings}
use Rattle.page_env.specs.declared.page.PenPlace.{PenPlace}

module _ (watched : Flags) where
  -- ---- what is read

  page_alike : (s : State) → IsReadAlike s page_reads page_reads
  unfolding page_reads
  page_alike s = (refl, λ h. refl)

  page_and_line_alike : (s : State) → IsReadAlike s page_and_line_reads page_and_line_reads
  unfolding page_and_line_reads
  page_and_line_alike s = (refl, λ h. refl)

  vertical_alike : (s : State) (y : Option ℤ) → IsReadAlike s (vertical_reads y) (vertical_reads y)
  vertical_alike s None = (refl, λ h. refl)
  vertical_alike s (Some y) = (refl, λ h. refl)

  page_vertical_alike : (s : State) (y : Option ℤ) →
      IsReadAlike s (Size ∷ OrientationField ∷ vertical_reads y) (Size ∷ OrientationField ∷ vertical_reads y)
  page_vertical_alike s None = (refl, λ h. refl)
  page_vertical_alike s (Some y) = (refl, λ h. refl)

  from_top_alike : (s : State) (n : Amount) → IsReadAlike s (relative_reads n.sign s.cursor.y) (relative_reads n.sign s.cursor.y)
  from_top_alike s n = by (is_absent n.sign) s.cursor.y
    where
      by : (b : Bool) (y : Option ℤ) →
          IsReadAlike s (Size ∷ OrientationField ∷ cond b [] (vertical_reads y)) (Size ∷ OrientationField ∷ cond b [] (vertical_reads y))
      by true y = (refl, λ h. refl)
      by false y = page_vertical_alike s y

  font_only : (parts : FontParts) → are_set parts ≡ true → names_font (font_reads parts) ≡ false
  font_only parts h = ap (λ b. names_font (cond b [] (Font ∷ []))) h

  column_only : (job : JobSettings) → are_set job.font ≡ true → names_font (column_reads job) ≡ false
  column_only job h = by (is_none job.hmi)
    where
      by : (b : Bool) → names_font (cond b (font_reads job.font) []) ≡ false
      by true = font_only job.font h
      by false = refl

  page_column_alike : (s : State) →
      IsReadAlike s (Size ∷ OrientationField ∷ column_reads s.settings.job) (Size ∷ OrientationField ∷ column_reads s.settings.job)
  page_column_alike s = (refl, column_only s.settings.job)

  text_alike : (s : State) (y : Option ℤ) (others : List Field) → (are_set s.settings.job.font ≡ true → names_font others ≡ false) →
      IsReadAlike s (text_reads y others) (text_reads y others)
  unfolding text_reads
  text_alike s None others h = (refl, h)
  text_alike s (Some y) others h = (refl, h)

  -- ---- one of two

  either_leaves : (s : State) (u : Untouched) (b : Bool) (l l' m m' : TableLine) → LineLeaves watched s u l l' →
      LineLeaves watched s u m m' → LineLeaves watched s u (cond b l m) (cond b l' m')
  either_leaves s u true l l' m m' h k = h
  either_leaves s u false l l' m m' h k = k

  either_goes : (s : State) (u left : Untouched) (b : Bool) (m m' n n' : Transition) → TransitionLeaves watched s u left m m' →
      TransitionLeaves watched s u left n n' → TransitionLeaves watched s u left (cond b m n) (cond b m' n')
  either_goes s u left true m m' n n' h k = h
  either_goes s u left false m m' n n' h k = k

  module _ (u : Untouched) where
    -- a state whose settings say so
    abbrev Says : State → Type 0
    Says s = SaysUntouched watched u s.settings

    abbrev Leaves : State → TableLine → TableLine → Type 0
    Leaves s line plain = LineLeaves watched s u line plain

    popped_says : (s : State) (stack : List Cursor) → Says s → Says (popped s stack)
    popped_says s [] e = e
    popped_says s (cursor ∷ stack) e = e

    stack_leaves : (n : Amount) (s : State) → Says s → Leaves s (use_stack s n) (use_stack (plain_state s) n)
    stack_leaves n s e =
        either_leaves s u (whole_of n == 0) (push_cursor s n) (push_cursor (plain_state s) n) (pop_cursor s n)
        (pop_cursor (plain_state s) n)
        (vertical_alike s s.cursor.y, e) ((refl, λ h. refl), popped_says s s.stack e)

    -- a tray that is chosen, or none
    tray_left : (b : Bool) (f : Flags) → f ≡ unset_where watched u →
        record f { tray = cond b f.tray false } ≡ unset_where watched (record u { tray = cond b u.tray false })
    tray_left true f e = e
    tray_left false f e = ap (λ (g : Flags). record g { tray = false }) e

    module _ (printer : Printer) where
      feed_goes : (by : Feed) (s t : State) → t.settings ≡ s.settings → Says s →
          TransitionLeaves watched s u u (feed_by printer t by) (feed_by printer (plain_state t) by)
      feed_goes by s t same e =
          let there : Says t = subst (λ x. SaysUntouched watched u x) (sym same) e in
          let leads : ℤ = fed_to t by in
          either_goes s u u (is_past_bottom printer t leads) (Closes (reading t page_and_line_reads) false at_home)
          (Closes (reading (plain_state t) page_and_line_reads) false at_home)
          (Step (feed_down printer t leads)) (Step (feed_down printer (plain_state t) leads))
          ((page_and_line_alike s, there), λ v k. k) (page_and_line_alike s, there)

      fed_goes : (b : Bool) (s : State) → Says s →
          TransitionLeaves watched s u u (feed_by printer (cond b (carriage_return s) s) WholeLine)
          (feed_by printer (cond b (carriage_return (plain_state s)) (plain_state s)) WholeLine)
      fed_goes true s e = feed_goes WholeLine s (carriage_return s) refl e
      fed_goes false s e = feed_goes WholeLine s s refl e

      returned_says : (b : Bool) (s : State) → Says s → Says (cond b (carriage_return s) s)
      returned_says true s e = e
      returned_says false s e = e

      character_leaves : (code : ℕ) (s : State) → Says s → Leaves s (character printer s code) (character printer (plain_state s) code)
      character_leaves code s e = (text_alike s s.cursor.y (font_reads s.settings.job.font) (font_only s.settings.job.font), e)

      byte_leaves : (code : ℕ) (s : State) → Says s → Leaves s (print_byte printer s code) (print_byte printer (plain_state s) code)
      byte_leaves code s e =
          either_leaves s u (code == 32) (space printer s) (space printer (plain_state s)) (character printer s code)
          (character printer (plain_state s) code)
          (text_alike s s.cursor.y (column_reads s.settings.job) (column_only s.settings.job), e) (character_leaves code s e)

      transparent_leaves : (code : ℕ) (s : State) → Says s →
          Leaves s (print_transparent printer s code) (print_transparent printer (plain_state s) code)
      transparent_leaves code s e =
          either_leaves s u (code == 32) (transparent_space printer s) (transparent_space printer (plain_state s))
          (character printer s code) (character printer (plain_state s) code)
          (text_alike s s.cursor.y (font_reads s.settings.job.font) (font_only s.settings.job.font), e) (character_leaves code s e)

      leave_leaves : (handover : Handover) (s : State) → Says s →
          Leaves s (leave_frame printer s handover) (leave_frame printer (plain_state s) handover)
      leave_leaves Previous s e = ((refl, λ h. refl), e)
      leave_leaves Current s e =
          either_leaves s u s.in_frame (leave_at_pen printer s) (leave_at_pen printer (plain_state s)) (moving s) (moving (plain_state s))
          (page_alike s, e) ((refl, λ h. refl), e)

      enter_leaves : (handover : Handover) (s : State) → Says s →
          Leaves s (enter_frame printer s handover) (enter_frame printer (plain_state s) handover)
      enter_leaves Previous s e = ((refl, λ h. refl), e)
      enter_leaves Current s e = (page_vertical_alike s s.cursor.y, e)

      setting_leaves : (setting : Setting) (n : ℕ) (s : State) → Says s → Leaves s (set_pen s setting n) (set_pen (plain_state s) setting n)
      setting_leaves settings.Pen n s e = ((refl, λ h. refl), e)
      setting_leaves settings.Width n s e = ((refl, λ h. refl), e)

      draw_leaves : (to : PenPlace) (s : State) → Says s → Leaves s (draw printer s to) (draw printer (plain_state s) to)
      draw_leaves to s e = (page_alike s, e)

      motion_leaves : (motion : Motion) (s : State) → Says s →
          Leaves s (motion_step printer s motion) (motion_step printer (plain_state s) motion)
      motion_leaves Up s e = ((refl, λ h. refl), e)
      motion_leaves Absolute s e = ((refl, λ h. refl), e)
      motion_leaves Relative s e = ((refl, λ h. refl), e)
      motion_leaves Down s e =
          let here : PenPlace = s.settings.job.pen.place in
          either_leaves s u s.settings.job.pen.is_down (moving s) (moving (plain_state s)) (draw printer s here)
          (draw printer (plain_state s) here)
          ((refl, λ h. refl), e) (draw_leaves here s e)

      move_leaves : (to : ℤ × ℤ) (s : State) → Says s → Leaves s (move_pen printer s to) (move_pen printer (plain_state s) to)
      move_leaves to s e =
          let target = pen_target s.settings.job.pen to in
          either_leaves s u s.settings.job.pen.is_down (draw printer s target) (draw printer (plain_state s) target) (carry_pen s target)
          (carry_pen (plain_state s) target)
          (draw_leaves target s e) ((refl, λ h. refl), e)

      module _ (defaults : Settings) (d : SaysUntouched watched all_untouched defaults) where
        command_leaves : (command : Command) (n : Amount) (s : State) → is_macro_control (Parameterized command n) ≡ false → Says s →
            TransitionLeaves watched s u (untouched_behind (Parameterized command n) u) (command_transition printer defaults s command n)
            (command_transition printer (plain_settings defaults) (plain_state s) command n)
        command_leaves commands.Copies n s r e = ((refl, λ h. refl), (ap (λ (f : Flags). record f { copies = false }) e.0, e.1))
        command_leaves commands.Sides n s r e = (((refl, λ h. refl), e), λ t k. (ap (λ (f : Flags). record f { sides = false }) k.0, k.1))
        command_leaves commands.Source n s r e = (((refl, λ h. refl), e), λ t k. (tray_left (whole_of n == 0) t.settings.unset k.0, k.1))
        command_leaves commands.PageSize n s r e = (((refl, λ h. refl), e), λ t k. (ap (λ (f : Flags). record f { size = false }) k.0, k.1))
        command_leaves commands.Orientation n s r e = (
          ((refl, λ h. refl), e),
          λ t k. (
            ap (λ (f : Flags). record f { orientation = false; vmi = defaults.unset.vmi }) k.0
                ∙ ap (λ (f : Flags). record (unset_where watched u) { orientation = false; vmi = f.vmi }) d.0,
            k.1,
          ),
        )
        command_leaves commands.VerticalMotionIndex n s r e = ((refl, λ h. refl), (ap (λ (f : Flags). record f { vmi = false }) e.0, e.1))
        command_leaves commands.LineSpacing n s r e = ((refl, λ h. refl), (ap (λ (f : Flags). record f { vmi = false }) e.0, e.1))
        command_leaves commands.TopMargin n s r e = (page_and_line_alike s, e)
        command_leaves commands.TextLength n s r e = (page_and_line_alike s, e)
        command_leaves commands.LineTermination n s r e =
            ((refl, λ h. refl), (ap (λ (f : Flags). record f { line_termination = false }) e.0, e.1))
        command_leaves commands.LeftMargin n s r e = (page_column_alike s, e)
        command_leaves commands.RightMargin n s r e = (page_column_alike s, e)
        command_leaves commands.Column n s r e = (page_column_alike s, e)
        command_leaves commands.Row n s r e = (page_and_line_alike s, e)
        command_leaves commands.HorizontalDecipoints n s r e = (page_alike s, e)
        command_leaves commands.VerticalDecipoints n s r e = (from_top_alike s n, e)
        command_leaves commands.HorizontalUnits n s r e = (page_alike s, e)
        command_leaves commands.VerticalUnits n s r e = (from_top_alike s n, e)
        command_leaves commands.CursorStack n s r e = stack_leaves n s e
        command_leaves commands.MacroControl n s r e = absurd (false≢true (sym r))
        command_leaves commands.FillRectangle n s r e = (page_vertical_alike s s.cursor.y, e)
        command_leaves commands.PictureFrameAnchor n s r e = (vertical_alike s s.cursor.y, e)
        command_leaves commands.StartRaster n s r e = (page_vertical_alike s s.cursor.y, e)
        command_leaves commands.RasterOffset n s r e = (page_vertical_alike s s.cursor.y, e)
        command_leaves commands.FontSpacing n s r e = ((refl, λ h. refl), (e.0, ap (λ (p : PartFlags). record p { spacing = false }) e.1))
        command_leaves commands.FontPitch n s r e = ((refl, λ h. refl), (e.0, ap (λ (p : PartFlags). record p { pitch = false }) e.1))
        command_leaves commands.FontHeight n s r e = ((refl, λ h. refl), (e.0, ap (λ (p : PartFlags). record p { height = false }) e.1))
        command_leaves commands.FontStyle n s r e = ((refl, λ h. refl), (e.0, ap (λ (p : PartFlags). record p { style = false }) e.1))
        command_leaves commands.FontWeight n s r e = ((refl, λ h. refl), (e.0, ap (λ (p : PartFlags). record p { weight = false }) e.1))
        command_leaves commands.FontTypeface n s r e = ((refl, λ h. refl), (e.0, ap (λ (p : PartFlags). record p { typeface = false }) e.1))
        -- all others read nothing, and set nothing that the panel has
        command_leaves _ n s r e = ((refl, λ h. refl), e)

        item_leaves : (item : Entry) (s : State) → is_macro_control item ≡ false → Says s →
            TransitionLeaves watched s u (untouched_behind item u) (transition_of printer defaults s item)
            (transition_of printer (plain_settings defaults) (plain_state s) item)
        item_leaves (Text code) s r e = byte_leaves code s e
        item_leaves CarriageReturn s r e = (
          (refl, λ h. refl),
          either_goes s u u (line_termination s).feeds_at_return (feed_by printer (carriage_return s) WholeLine)
              (feed_by printer (carriage_return (plain_state s)) WholeLine) (Step (moving (carriage_return s)))
              (Step (moving (carriage_return (plain_state s))))
              (feed_goes WholeLine s (carriage_return s) refl e) ((refl, λ h. refl), e),
        )
        item_leaves LineFeed s r e = ((refl, λ h. refl), fed_goes (line_termination s).returns_at_feed s e)
        item_leaves FormFeed s r e =
            ((refl, λ h. refl), (((refl, λ h. refl), returned_says (line_termination s).returns_at_feed s e), λ t k. k))
        item_leaves Reset s r e = (((refl, λ h. refl), e), λ t k. d)
        item_leaves ExitLanguage s r e = (((refl, λ h. refl), e), λ t k. d)
        item_leaves ClearMargins s r e = ((refl, λ h. refl), e)
        item_leaves HalfLineFeed s r e = feed_goes HalfLine s s refl e
        item_leaves (Parameterized command n) s r e = command_leaves command n s r e
        item_leaves (SymbolSet n letter) s r e = ((refl, λ h. refl), (e.0, ap (λ (p : PartFlags). record p { symbol_set = false }) e.1))
        item_leaves DefaultFont s r e = ((refl, λ h. refl), (e.0, refl))
        item_leaves (EnterFrame handover) s r e = enter_leaves handover s e
        item_leaves (LeaveFrame handover) s r e = leave_leaves handover s e
        item_leaves Initialize s r e = ((refl, λ h. refl), e)
        item_leaves (Set setting n) s r e = setting_leaves setting n s e
        item_leaves (Move motion to) s r e = motion_leaves motion s e
        item_leaves (WithData TransparentText bytes) s r e = ((refl, λ h. refl), e)
        item_leaves (WithData RasterRow bytes) s r e = (page_vertical_alike s s.cursor.y, e)
        item_leaves (PjlLine line) s r e = ((refl, λ h. refl), e)

pub item_untouched : (printer : Printer) (item : Entry) → LeavesItsUntouched printer item
item_untouched printer item watched defaults u s r d e = item_leaves watched u printer defaults d item s r e

pub byte_untouched : (printer : Printer) (code : ℕ) → ByteSetsNothing printer code
byte_untouched printer code watched u s e = transparent_leaves watched u printer code s e

pub move_untouched : (printer : Printer) (to : ℤ × ℤ) → MoveSetsNothing printer to
move_untouched printer to watched u s e = move_leaves watched u printer to s e
