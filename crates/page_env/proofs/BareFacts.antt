-- No item but a macro control enables an overlay, and none watches a field or limits the items of macros.
use Rattle.std.proofs.Common.{◌≡◌, ◌==◌, ℕ, ℤ, Bool, true, false, cond, List, [], ◌∷◌, Option, Some, None, refl, ap, sym, ◌∙◌}
use Rattle.std.proofs.lemmas.Bool.{false≢true}
use Rattle.pcl_items.specs.declared.pcl.command.Command.{Command}
use Rattle.pcl_items.specs.declared.pcl.command.Command.TheVariants.{Copies, Sides, Source, PageSize, Orientation, VerticalMotionIndex}
use Rattle.pcl_items.specs.declared.pcl.command.Command.TheVariants.{LineSpacing, LineTermination, CursorStack, MacroControl}
use Rattle.pcl_items.specs.declared.pcl.command.DataCommand.TheVariants.{TransparentText, RasterRow}
use Rattle.pcl_items.specs.declared.frame.Handover.{Handover}
use Rattle.pcl_items.specs.declared.frame.Handover.TheVariants.{Previous, Current}
use Rattle.pcl_items.specs.declared.frame.Motion.{Motion}
use Rattle.pcl_items.specs.declared.frame.Motion.TheVariants.{Up, Down, Absolute, Relative}
use Rattle.pcl_items.specs.declared.frame.Setting.{Setting}
use Rattle.pcl_items.specs.declared.frame.Setting.TheVariants as settings
use Rattle.pcl_items.specs.Items.{Entry, Text, CarriageReturn, LineFeed, FormFeed, Reset, ClearMargins, HalfLineFeed, Parameterized}
use Rattle.pcl_items.specs.Items.{SymbolSet, DefaultFont, EnterFrame, LeaveFrame, Initialize, Set, Move, WithData, ExitLanguage, PjlLine}
use Rattle.pcl_items.specs.Escapes.Value.{Amount}
use Rattle.device_profile.specs.Printer.{Printer}
use Rattle.page_env.specs.declared.macros.Control.{Control}
use Rattle.page_env.specs.declared.macros.Control.TheVariants.{Begin, End, Execute, Call, EnableOverlay, DisableOverlay, DeleteAll, Delete}
use Rattle.page_env.specs.declared.macros.Control.TheVariants.{MakeTemporary}
use Rattle.page_env.specs.declared.motion.Feed.{Feed}
use Rattle.page_env.specs.declared.motion.Feed.TheVariants.{Line as WholeLine, HalfLine}
use Rattle.page_env.specs.declared.cursor.Cursor.{Cursor}
use Rattle.page_env.specs.Settings.{Flags, Settings, State, unwatched}
use Rattle.page_env.specs.Numbers.{whole_of}
use Rattle.page_env.specs.CursorPositioning.{push_cursor, popped, pop_cursor}
use Rattle.page_env.specs.Effect.{TableLine, moving, reading, Transition, Step, Closes}
use Rattle.page_env.specs.Frames.{leave_at_pen, enter_frame, leave_frame}
use Rattle.page_env.specs.Motion.{at_home, fed_to, is_past_bottom, feed_down, feed_by, carriage_return, line_termination}
use Rattle.page_env.specs.Pens.{set_pen, pen_target, draw, carry_pen, motion_step}
use Rattle.page_env.specs.Places.{page_and_line_reads}
use Rattle.page_env.specs.Text.{character, space, transparent_space}
use Rattle.page_env.specs.Table.{command_transition}
use Rattle.page_env.specs.Macros.{control_of, overlay_without}
use Rattle.page_env.specs.Text.{print_byte}
use Rattle.page_env.specs.CursorPositioning.{use_stack}
use Rattle.page_env.specs.Pinned.{enables_overlay, returns_to_panel, AreBare, IsBare, KeepsBare, IsBareItem, IsBareControl, IsBareByte}
use Rattle.page_env.specs.Pinned.{IsBareMove}

bare_line : (b : Bool) (l m : TableLine) → IsBare l.state → IsBare m.state → IsBare (cond b l m).state
bare_line true l m h k = h
bare_line false l m h k = k

bare_either : (b : Bool) (m n : Transition) → KeepsBare m → KeepsBare n → KeepsBare (cond b m n)
bare_either true m n h k = h
bare_either false m n h k = k

popped_bare : (s : State) (stack : List Cursor) → IsBare s → IsBare (popped s stack)
popped_bare s [] e = e
popped_bare s (cursor ∷ stack) e = e

stack_bare : (n : Amount) (s : State) → IsBare s → IsBare (use_stack s n).state
stack_bare n s e = bare_line (whole_of n == 0) (push_cursor s n) (pop_cursor s n) e (popped_bare s s.stack e)

module _ (printer : Printer) where
  feed_bare : (by : Feed) (s : State) → IsBare s → KeepsBare (feed_by printer s by)
  feed_bare by s e =
      bare_either (is_past_bottom printer s (fed_to s by)) (Closes (reading s page_and_line_reads) false at_home)
      (Step (feed_down printer s (fed_to s by))) (e, λ u k. k) e

  fed_bare : (b : Bool) (s : State) → IsBare s → KeepsBare (feed_by printer (cond b (carriage_return s) s) WholeLine)
  fed_bare true s e = feed_bare WholeLine (carriage_return s) e
  fed_bare false s e = feed_bare WholeLine s e

  ended_bare : (b : Bool) (s : State) → IsBare s → IsBare (cond b (carriage_return s) s)
  ended_bare true s e = e
  ended_bare false s e = e

  byte_bare : (code : ℕ) (s : State) → IsBare s → IsBare (print_byte printer s code).state
  byte_bare code s e = bare_line (code == 32) (space printer s) (character printer s code) e e

  pub transparent_bare : (code : ℕ) → IsBareByte printer code
  transparent_bare code s e = bare_line (code == 32) (transparent_space printer s) (character printer s code) e e

  leave_bare : (handover : Handover) (s : State) → IsBare s → IsBare (leave_frame printer s handover).state
  leave_bare Previous s e = e
  leave_bare Current s e = bare_line s.in_frame (leave_at_pen printer s) (moving s) e e

  enter_bare : (handover : Handover) (s : State) → IsBare s → IsBare (enter_frame printer s handover).state
  enter_bare Previous s e = e
  enter_bare Current s e = e

  setting_bare : (setting : Setting) (n : ℕ) (s : State) → IsBare s → IsBare (set_pen s setting n).state
  setting_bare settings.Pen n s e = e
  setting_bare settings.Width n s e = e

  motion_bare : (motion : Motion) (s : State) → IsBare s → IsBare (motion_step printer s motion).state
  motion_bare Up s e = e
  motion_bare Absolute s e = e
  motion_bare Relative s e = e
  motion_bare Down s e = bare_line s.settings.job.pen.is_down (moving s) (draw printer s s.settings.job.pen.place) e e

  pub move_bare : (to : ℤ × ℤ) → IsBareMove printer to
  move_bare to s e =
      let target = pen_target s.settings.job.pen to in
      bare_line s.settings.job.pen.is_down (draw printer s target) (carry_pen s target) e e

not_enabled : (control : Option Control) → enables_overlay control ≡ false → control ≡ Some EnableOverlay → ⊥
not_enabled control r e = false≢true (sym r ∙ ap enables_overlay e)

without_bare : (id : ℕ) (overlay : Option ℕ) → overlay ≡ None → overlay_without id overlay ≡ None
without_bare id overlay e = ap (overlay_without id) e

pub control_bare : IsBareControl
control_bare s known in_macro None other e = e
control_bare s known in_macro (Some Begin) other e = (without_bare s.settings.job.macro_id s.settings.job.overlay e.0, e.1, e.2)
control_bare s known in_macro (Some End) other e = e
control_bare s known in_macro (Some Execute) other e = e
control_bare s known in_macro (Some Call) other e = e
control_bare s known in_macro (Some EnableOverlay) other e = absurd (other refl)
control_bare s known in_macro (Some DisableOverlay) other e = (refl, e.1, e.2)
control_bare s known in_macro (Some DeleteAll) other e = (refl, e.1, e.2)
control_bare s known in_macro (Some Delete) other e = (without_bare s.settings.job.macro_id s.settings.job.overlay e.0, e.1, e.2)
control_bare s known in_macro (Some MakeTemporary) other e = e

-- a tray that is chosen, or none
fed_from : (b : Bool) (u : Flags) → u ≡ unwatched → record u { tray = cond b u.tray false } ≡ unwatched
fed_from true u e = e
fed_from false u e = ap (λ (f : Flags). record f { tray = false }) e

module _ (printer : Printer) (defaults : Settings) where
  command_keeps : (command : Command) (n : Amount) (s : State) → returns_to_panel (Parameterized command n) ≡ false → AreBare defaults →
      IsBare s → KeepsBare (command_transition printer defaults s command n)
  command_keeps Copies n s r d e = (e.0, ap (λ (u : Flags). record u { copies = false }) e.1, e.2)
  command_keeps Sides n s r d e = (e, λ t k. (k.0, ap (λ (u : Flags). record u { sides = false }) k.1, k.2))
  command_keeps Source n s r d e = (e, λ t k. (k.0, fed_from (whole_of n == 0) t.settings.unset k.1, k.2))
  command_keeps PageSize n s r d e = (e, λ t k. (refl, ap (λ (u : Flags). record u { size = false }) k.1, k.2))
  command_keeps Orientation n s r d e = (
    e,
    λ t k. (
      refl,
      ap (λ (u : Flags). record u { orientation = false; vmi = defaults.unset.vmi }) k.1
          ∙ ap (λ (u : Flags). record unwatched { orientation = false; vmi = u.vmi }) d.1,
      k.2,
    ),
  )
  command_keeps VerticalMotionIndex n s r d e = (e.0, ap (λ (u : Flags). record u { vmi = false }) e.1, e.2)
  command_keeps LineSpacing n s r d e = (e.0, ap (λ (u : Flags). record u { vmi = false }) e.1, e.2)
  command_keeps LineTermination n s r d e = (e.0, ap (λ (u : Flags). record u { line_termination = false }) e.1, e.2)
  command_keeps CursorStack n s r d e = stack_bare n s e
  command_keeps MacroControl n s r d e = (e, not_enabled (control_of n) r)
  -- all others touch neither the overlay nor a flag
  command_keeps _ n s r d e = e

pub item_bare : (printer : Printer) (item : Entry) → IsBareItem printer item
item_bare printer (Text code) defaults s r d e = byte_bare printer code s e
item_bare printer CarriageReturn defaults s r d e =
    bare_either (line_termination s).feeds_at_return (feed_by printer (carriage_return s) WholeLine) (Step (moving (carriage_return s)))
    (feed_bare printer WholeLine (carriage_return s) e) e
item_bare printer LineFeed defaults s r d e = fed_bare printer (line_termination s).returns_at_feed s e
item_bare printer FormFeed defaults s r d e = ended_bare printer (line_termination s).returns_at_feed s e
item_bare printer Reset defaults s r d e = (e, λ t k. (d.0, d.1, k.2))
item_bare printer ExitLanguage defaults s r d e = (e, λ t k. (d.0, d.1, k.2))
item_bare printer ClearMargins defaults s r d e = e
item_bare printer HalfLineFeed defaults s r d e = feed_bare printer HalfLine s e
item_bare printer (Parameterized command n) defaults s r d e = command_keeps printer defaults command n s r d e
item_bare printer (SymbolSet n letter) defaults s r d e = e
item_bare printer DefaultFont defaults s r d e = e
item_bare printer (EnterFrame handover) defaults s r d e = enter_bare printer handover s e
item_bare printer (LeaveFrame handover) defaults s r d e = leave_bare printer handover s e
item_bare printer Initialize defaults s r d e = e
item_bare printer (Set setting n) defaults s r d e = setting_bare printer setting n s e
item_bare printer (Move motion to) defaults s r d e = motion_bare printer motion s e
item_bare printer (WithData TransparentText bytes) defaults s r d e = e
item_bare printer (WithData RasterRow bytes) defaults s r d e = e
item_bare printer (PjlLine line) defaults s r d e = e
