-- Each item goes alike where the job has set all that the panel chooses, and reads nothing that is unset.
use Rattle.std.proofs.Common.{◌≡◌, ◌==◌, ℕ, ℤ, Bool, true, false, cond, is_none, List, [], ◌∷◌, Option, Some, None, refl, ap}
use Rattle.pcl_items.specs.declared.pcl.command.Command.{Command}
use Rattle.pcl_items.specs.declared.pcl.command.Command.TheVariants as commands
use Rattle.pcl_items.specs.declared.pcl.command.DataCommand.TheVariants.{TransparentText, RasterRow}
use Rattle.pcl_items.specs.declared.frame.Handover.{Handover}
use Rattle.pcl_items.specs.declared.frame.Handover.TheVariants.{Previous, Current}
use Rattle.pcl_items.specs.declared.frame.Motion.{Motion}
use Rattle.pcl_items.specs.declared.frame.Motion.TheVariants.{Up, Down, Absolute, Relative}
use Rattle.pcl_items.specs.declared.frame.Setting.{Setting}
use Rattle.pcl_items.specs.declared.frame.Setting.TheVariants as settings
use Rattle.pcl_items.specs.Items.{Entry, Text, CarriageReturn, LineFeed, FormFeed, Reset, ClearMargins, HalfLineFeed, Parameterized}
use Rattle.pcl_items.specs.Items.{SymbolSet, DefaultFont, EnterFrame, LeaveFrame, Initialize, Set, Move, WithData, ExitLanguage, PjlLine}
use Rattle.pcl_items.specs.declared.number.Sign.{Sign}
use Rattle.pcl_items.specs.declared.number.Sign.TheVariants.{Absent, Plus, Minus}
use Rattle.pcl_items.specs.Escapes.Value.{Amount}
use Rattle.device_profile.specs.declared.field.Field.TheVariants.{Size as SizeField, Orientation as OrientationField}
use Rattle.device_profile.specs.Printer.{Printer}
use Rattle.page_env.specs.declared.macros.Control.TheVariants.{Begin, End, Execute, Call, EnableOverlay, DisableOverlay, DeleteAll, Delete}
use Rattle.page_env.specs.declared.macros.Control.TheVariants.{MakeTemporary}
use Rattle.page_env.specs.declared.motion.Feed.{Feed}
use Rattle.page_env.specs.declared.motion.Feed.TheVariants.{Line as WholeLine, HalfLine}
use Rattle.page_env.specs.declared.cursor.Cursor.{Cursor}
use Rattle.page_env.specs.declared.page.PenPlace.{PenPlace}
use Rattle.page_env.specs.Settings.{Settings, State, unwatched}
use Rattle.page_env.specs.Numbers.{whole_of}
use Rattle.page_env.specs.CursorPositioning.{push_cursor, popped, pop_cursor, relative_reads}
use Rattle.page_env.specs.Effect.{TableLine, moving, reading, Transition, Step, Closes}
use Rattle.page_env.specs.Frames.{leave_at_pen, enter_frame, leave_frame}
use Rattle.page_env.specs.Motion.{at_home, fed_to, is_past_bottom, feed_down, feed_by, carriage_return, line_termination}
use Rattle.page_env.specs.PageControl.{set_source}
use Rattle.page_env.specs.Pens.{set_pen, pen_target, draw, carry_pen, motion_step}
use Rattle.page_env.specs.Places.{page_reads, page_and_line_reads, vertical_reads}
use Rattle.page_env.specs.Text.{character, space, transparent_space, text_reads}
use Rattle.page_env.specs.Table.{command_transition}
use Rattle.page_env.specs.Pinned.{pinned, AreSet, returns_to_panel, GoesPinned, GoesPinnedBy, IsPinnedItem, IsPinnedControl, IsPinnedByte}
use Rattle.page_env.specs.Pinned.{IsPinnedMove}

same_flag : (b : Bool) → cond b false false ≡ false
same_flag true = refl
same_flag false = refl

module _ (printer : Printer) (defaults : Settings) where
  abbrev there : State → State
  there s = pinned printer defaults s

  -- ---- what is read

  module _ (s : State) where
    page_set : AreSet printer defaults s page_reads
    unfolding page_reads
    page_set = refl

    page_and_line_set : AreSet printer defaults s page_and_line_reads
    unfolding page_and_line_reads
    page_and_line_set = refl

    vertical_set : (y : Option ℤ) → AreSet printer defaults s (vertical_reads y)
    vertical_set None = refl
    vertical_set (Some y) = refl

    page_and_vertical_set : (y : Option ℤ) → AreSet printer defaults s (SizeField ∷ OrientationField ∷ vertical_reads y)
    page_and_vertical_set None = refl
    page_and_vertical_set (Some y) = refl

    relative_set : (sign : Sign) (y : Option ℤ) → AreSet printer defaults s (relative_reads sign y)
    relative_set Absent y = refl
    relative_set Plus y = page_and_vertical_set y
    relative_set Minus y = page_and_vertical_set y

    -- all parts of the font request are set
    columns_set : (hmi : Option ℕ) → AreSet printer defaults s (SizeField ∷ OrientationField ∷ cond (is_none hmi) [] [])
    columns_set None = refl
    columns_set (Some hmi) = refl

    characters_set : (y : Option ℤ) → AreSet printer defaults s (text_reads y [])
    unfolding text_reads
    characters_set None = refl
    characters_set (Some y) = refl

    spaces_set : (y : Option ℤ) (hmi : Option ℕ) → AreSet printer defaults s (text_reads y (cond (is_none hmi) [] []))
    spaces_set y None = characters_set y
    spaces_set y (Some hmi) = characters_set y

  -- ---- one of two

  either_line : (b : Bool) (s : State) (l m l' m' : TableLine) → GoesPinned printer defaults s l l' → GoesPinned printer defaults s m m' →
      GoesPinned printer defaults s (cond b l m) (cond b l' m')
  either_line true s l m l' m' h k = h
  either_line false s l m l' m' h k = k

  either : (b : Bool) (s : State) (m n m' n' : Transition) → GoesPinnedBy printer defaults s m m' → GoesPinnedBy printer defaults s n n' →
      GoesPinnedBy printer defaults s (cond b m n) (cond b m' n')
  either true s m n m' n' h k = h
  either false s m n m' n' h k = k

  -- ---- what changes the cursor or the tray

  source_same : (n : Amount) (t : State) → set_source (there t) n ≡ there (set_source t n)
  source_same n t =
      let u : State = there (set_source t n) in
      ap (λ b. record u { settings = record u.settings { unset = record unwatched { font = defaults.unset.font; tray = b } } })
      (same_flag (whole_of n == 0))

  popped_same : (s : State) (stack : List Cursor) → popped (there s) stack ≡ there (popped s stack)
  popped_same s [] = refl
  popped_same s (cursor ∷ stack) = refl

  stack_goes : (n : Amount) (s : State) →
      GoesPinned printer defaults s (cond (whole_of n == 0) (push_cursor s n) (pop_cursor s n))
      (cond (whole_of n == 0) (push_cursor (there s) n) (pop_cursor (there s) n))
  stack_goes n s =
      either_line (whole_of n == 0) s (push_cursor s n) (pop_cursor s n) (push_cursor (there s) n) (pop_cursor (there s) n)
      (refl, vertical_set s s.cursor.y)
      (ap (λ t. record (pop_cursor s n) { state = t }) (popped_same s s.stack), refl)

  -- ---- text

  byte_goes : (code : ℕ) (s : State) →
      GoesPinned printer defaults s (cond (code == 32) (space printer s) (character printer s code))
      (cond (code == 32) (space printer (there s)) (character printer (there s) code))
  byte_goes code s =
      either_line (code == 32) s (space printer s) (character printer s code) (space printer (there s)) (character printer (there s) code)
      (refl, spaces_set s s.cursor.y s.settings.job.hmi) (refl, characters_set s s.cursor.y)

  pub transparent_goes : (code : ℕ) → IsPinnedByte printer defaults code
  transparent_goes code s =
      either_line (code == 32) s (transparent_space printer s) (character printer s code) (transparent_space printer (there s))
      (character printer (there s) code)
      (refl, characters_set s s.cursor.y) (refl, characters_set s s.cursor.y)

  -- ---- feeds

  feed_goes : (by : Feed) (s : State) → GoesPinnedBy printer defaults s (feed_by printer s by) (feed_by printer (there s) by)
  feed_goes by s =
      let t : State = there s in
      either (is_past_bottom printer s (fed_to s by)) s (Closes (reading s page_and_line_reads) false at_home)
      (Step (feed_down printer s (fed_to s by))) (Closes (reading t page_and_line_reads) false at_home)
      (Step (feed_down printer t (fed_to s by)))
      ((refl, page_and_line_set s), refl, λ u. refl) (refl, page_and_line_set s)

  fed_behind : (b : Bool) (s : State) →
      GoesPinnedBy printer defaults s (feed_by printer (cond b (carriage_return s) s) WholeLine)
      (feed_by printer (cond b (carriage_return (there s)) (there s)) WholeLine)
  fed_behind true s = feed_goes WholeLine (carriage_return s)
  fed_behind false s = feed_goes WholeLine s

  ended_behind : (b : Bool) (s : State) →
      GoesPinned printer defaults s (moving (cond b (carriage_return s) s)) (moving (cond b (carriage_return (there s)) (there s)))
  ended_behind true s = (refl, refl)
  ended_behind false s = (refl, refl)

  return_goes : (s : State) →
      GoesPinnedBy printer defaults s
      (cond (line_termination s).feeds_at_return (feed_by printer (carriage_return s) WholeLine) (Step (moving (carriage_return s))))
      (cond (line_termination s).feeds_at_return (feed_by printer (carriage_return (there s)) WholeLine)
      (Step (moving (carriage_return (there s)))))
  return_goes s =
      either (line_termination s).feeds_at_return s (feed_by printer (carriage_return s) WholeLine) (Step (moving (carriage_return s)))
      (feed_by printer (carriage_return (there s)) WholeLine) (Step (moving (carriage_return (there s))))
      (feed_goes WholeLine (carriage_return s)) (refl, refl)

  -- ---- frames

  leave_goes : (handover : Handover) (s : State) →
      GoesPinned printer defaults s (leave_frame printer s handover) (leave_frame printer (there s) handover)
  leave_goes Previous s = (refl, refl)
  leave_goes Current s =
      either_line s.in_frame s (leave_at_pen printer s) (moving s) (leave_at_pen printer (there s)) (moving (there s))
      (refl, page_set s) (refl, refl)

  enter_goes : (handover : Handover) (s : State) →
      GoesPinned printer defaults s (enter_frame printer s handover) (enter_frame printer (there s) handover)
  enter_goes Previous s = (refl, refl)
  enter_goes Current s = (refl, page_and_vertical_set s s.cursor.y)

  setting_goes : (setting : Setting) (n : ℕ) (s : State) → GoesPinned printer defaults s (set_pen s setting n) (set_pen (there s) setting n)
  setting_goes settings.Pen n s = (refl, refl)
  setting_goes settings.Width n s = (refl, refl)

  motion_goes : (motion : Motion) (s : State) →
      GoesPinned printer defaults s (motion_step printer s motion) (motion_step printer (there s) motion)
  motion_goes Up s = (refl, refl)
  motion_goes Absolute s = (refl, refl)
  motion_goes Relative s = (refl, refl)
  motion_goes Down s =
      let at : PenPlace = s.settings.job.pen.place in
      either_line s.settings.job.pen.is_down s (moving s) (draw printer s at) (moving (there s)) (draw printer (there s) at)
      (refl, refl) (refl, page_set s)

  pub move_goes : (to : ℤ × ℤ) → IsPinnedMove printer defaults to
  move_goes to s =
      let target = pen_target s.settings.job.pen to in
      either_line s.settings.job.pen.is_down s (draw printer s target) (carry_pen s target) (draw printer (there s) target)
      (carry_pen (there s) target) (refl, page_set s) (refl, refl)

  -- ---- macro controls

  pub control_goes : IsPinnedControl printer defaults
  control_goes s known in_macro None = (refl, refl)
  control_goes s known in_macro (Some Begin) = (refl, refl)
  control_goes s known in_macro (Some End) = (refl, refl)
  control_goes s known in_macro (Some Execute) = (refl, refl)
  control_goes s known in_macro (Some Call) = (refl, refl)
  control_goes s known in_macro (Some EnableOverlay) = (refl, refl)
  control_goes s known in_macro (Some DisableOverlay) = (refl, refl)
  control_goes s known in_macro (Some DeleteAll) = (refl, refl)
  control_goes s known in_macro (Some Delete) = (refl, refl)
  control_goes s known in_macro (Some MakeTemporary) = (refl, refl)

module _ (printer : Printer) (defaults defaults' : Settings) where
  command_goes : (command : Command) (n : Amount) (s : State) → returns_to_panel (Parameterized command n) ≡ false →
      GoesPinnedBy printer defaults' s (command_transition printer defaults s command n)
      (command_transition printer defaults' (pinned printer defaults' s) command n)
  command_goes commands.Sides n s e = ((refl, refl), refl, λ t. refl)
  command_goes commands.Source n s e = ((refl, refl), refl, source_same printer defaults' n)
  command_goes commands.PageSize n s e = ((refl, refl), refl, λ t. refl)
  command_goes commands.Orientation n s e = absurd cc
  command_goes commands.TopMargin n s e = (refl, page_and_line_set printer defaults' s)
  command_goes commands.TextLength n s e = (refl, page_and_line_set printer defaults' s)
  command_goes commands.LeftMargin n s e = (refl, columns_set printer defaults' s s.settings.job.hmi)
  command_goes commands.RightMargin n s e = (refl, columns_set printer defaults' s s.settings.job.hmi)
  command_goes commands.Column n s e = (refl, columns_set printer defaults' s s.settings.job.hmi)
  command_goes commands.Row n s e = (refl, page_and_line_set printer defaults' s)
  command_goes commands.HorizontalDecipoints n s e = (refl, page_set printer defaults' s)
  command_goes commands.VerticalDecipoints n s e = (refl, relative_set printer defaults' s n.sign s.cursor.y)
  command_goes commands.HorizontalUnits n s e = (refl, page_set printer defaults' s)
  command_goes commands.VerticalUnits n s e = (refl, relative_set printer defaults' s n.sign s.cursor.y)
  command_goes commands.CursorStack n s e = stack_goes printer defaults' n s
  command_goes commands.FillRectangle n s e = (refl, page_and_vertical_set printer defaults' s s.cursor.y)
  command_goes commands.PictureFrameAnchor n s e = (refl, vertical_set printer defaults' s s.cursor.y)
  command_goes commands.StartRaster n s e = (refl, page_and_vertical_set printer defaults' s s.cursor.y)
  command_goes commands.RasterOffset n s e = (refl, page_and_vertical_set printer defaults' s s.cursor.y)
  -- all others read nothing
  command_goes _ n s e = (refl, refl)

  pub item_goes : (item : Entry) → IsPinnedItem printer defaults defaults' item
  item_goes (Text code) s e = byte_goes printer defaults' code s
  item_goes CarriageReturn s e = (refl, return_goes printer defaults' s)
  item_goes LineFeed s e = (refl, fed_behind printer defaults' (line_termination s).returns_at_feed s)
  item_goes FormFeed s e = (refl, ended_behind printer defaults' (line_termination s).returns_at_feed s)
  item_goes Reset s e = absurd cc
  item_goes ExitLanguage s e = absurd cc
  item_goes ClearMargins s e = (refl, refl)
  item_goes HalfLineFeed s e = feed_goes printer defaults' HalfLine s
  item_goes (Parameterized command n) s e = command_goes command n s e
  item_goes (SymbolSet n letter) s e = (refl, refl)
  item_goes DefaultFont s e = absurd cc
  item_goes (EnterFrame handover) s e = enter_goes printer defaults' handover s
  item_goes (LeaveFrame handover) s e = leave_goes printer defaults' handover s
  item_goes Initialize s e = (refl, refl)
  item_goes (Set setting n) s e = setting_goes printer defaults' setting n s
  item_goes (Move motion to) s e = motion_goes printer defaults' motion s
  item_goes (WithData TransparentText bytes) s e = (refl, refl)
  item_goes (WithData RasterRow bytes) s e = (refl, page_and_vertical_set printer defaults' s s.cursor.y)
  item_goes (PjlLine line) s e = (refl, refl)
