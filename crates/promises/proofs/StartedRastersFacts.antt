-- A raster that is started has a vertical place.
use Rattle.std.proofs.Common.{◌≡◌, ◌==◌, ℕ, ℤ, Bool, true, false, cond, List, [], ◌∷◌, Option, Some, None, refl, sym}
use Rattle.std.proofs.lemmas.Bool.{false≢true}
use Rattle.std.specs.Prelude.{option_map}
use Rattle.pcl_items.specs.declared.pcl.command.Command.{Command}
use Rattle.pcl_items.specs.declared.pcl.command.Command.TheVariants.{Sides, Source, PageSize, Orientation, CursorStack}
use Rattle.pcl_items.specs.declared.pcl.command.Command.TheVariants.{RasterResolution, StartRaster, RasterWidth, RasterHeight}
use Rattle.pcl_items.specs.declared.pcl.command.Command.TheVariants.{RasterPresentation, EndRaster, EndRasterAndMethod, CompressionMethod}
use Rattle.pcl_items.specs.declared.pcl.command.Command.TheVariants.{RasterOffset}
use Rattle.pcl_items.specs.declared.pcl.command.DataCommand.TheVariants.{TransparentText, RasterRow}
use Rattle.pcl_items.specs.declared.frame.Handover.{Handover}
use Rattle.pcl_items.specs.declared.frame.Handover.TheVariants.{Previous, Current}
use Rattle.pcl_items.specs.declared.frame.Motion.{Motion}
use Rattle.pcl_items.specs.declared.frame.Motion.TheVariants.{Up, Down, Absolute, Relative}
use Rattle.pcl_items.specs.declared.frame.Setting.{Setting}
use Rattle.pcl_items.specs.declared.frame.Setting.TheVariants as settings
use Rattle.pcl_items.specs.Items.{Entry, Text, CarriageReturn, LineFeed, FormFeed, Reset, ClearMargins, HalfLineFeed, Parameterized}
use Rattle.pcl_items.specs.Items.{SymbolSet, DefaultFont, EnterFrame, LeaveFrame, Initialize, Set, Move, WithData, ExitLanguage, PjlLine}
use Rattle.pcl_items.specs.Escapes.Value.{Amount}
use Rattle.device_profile.specs.declared.field.Field.TheVariants.{Size, Orientation as OrientationField}
use Rattle.device_profile.specs.Printer.{Printer}
use Rattle.page_env.specs.declared.cursor.Cursor.{Cursor}
use Rattle.page_env.specs.declared.motion.Feed.{Feed}
use Rattle.page_env.specs.declared.motion.Feed.TheVariants.{Line as WholeLine, HalfLine}
use Rattle.page_env.specs.declared.page.StartedRaster.{StartedRaster}
use Rattle.page_env.specs.CursorPositioning.{push_cursor, popped, pop_cursor, use_stack}
use Rattle.page_env.specs.Effect.{TableLine, moving, reading, Transition, Step, Closes}
use Rattle.page_env.specs.Frames.{leave_at_pen, enter_frame, leave_frame}
use Rattle.page_env.specs.Motion.{at_home, fed_to, is_past_bottom, feed_down, feed_by, carriage_return, line_termination}
use Rattle.page_env.specs.Numbers.{whole_of}
use Rattle.page_env.specs.Pens.{set_pen, pen_target, draw, carry_pen, motion_step, move_pen}
use Rattle.page_env.specs.Places.{page_and_line_reads, vertical_place, vertical_reads}
use Rattle.page_env.specs.Rasters.{is_of_raster, raster_behind, place_behind, rows_down}
use Rattle.page_env.specs.Settings.{Settings, State}
use Rattle.page_env.specs.Table.{command_transition, transition_of}
use Rattle.page_env.specs.Text.{character, space, transparent_space, print_byte, print_transparent}
use Rattle.promises.specs.StartedRasters.{HasNone, IsPlaced, HasPlace, LeavesNone, LeavesPlace, RastersHavePlaces}

-- ---- items that are not of rasters

none_line : (b : Bool) (l m : TableLine) → HasNone l.state → HasNone m.state → HasNone (cond b l m).state
none_line true l m h k = h
none_line false l m h k = k

none_either : (b : Bool) (m n : Transition) → LeavesNone m → LeavesNone n → LeavesNone (cond b m n)
none_either true m n h k = h
none_either false m n h k = k

popped_none : (s : State) (stack : List Cursor) → HasNone s → HasNone (popped s stack)
popped_none s [] e = e
popped_none s (cursor ∷ stack) e = e

stack_none : (n : Amount) (s : State) → HasNone s → HasNone (use_stack s n).state
stack_none n s e = none_line (whole_of n == 0) (push_cursor s n) (pop_cursor s n) e (popped_none s s.stack e)

module _ (printer : Printer) where
  feed_none : (by : Feed) (s : State) → HasNone s → LeavesNone (feed_by printer s by)
  feed_none by s e =
      none_either (is_past_bottom printer s (fed_to s by)) (Closes (reading s page_and_line_reads) false at_home)
      (Step (feed_down printer s (fed_to s by))) (e, λ u k. k) e

  fed_none : (b : Bool) (s : State) → HasNone s → LeavesNone (feed_by printer (cond b (carriage_return s) s) WholeLine)
  fed_none true s e = feed_none WholeLine (carriage_return s) e
  fed_none false s e = feed_none WholeLine s e

  ended_none : (b : Bool) (s : State) → HasNone s → HasNone (cond b (carriage_return s) s)
  ended_none true s e = e
  ended_none false s e = e

  byte_none : (code : ℕ) (s : State) → HasNone s → HasNone (print_byte printer s code).state
  byte_none code s e = none_line (code == 32) (space printer s) (character printer s code) e e

  transparent_none : (code : ℕ) (s : State) → HasNone s → HasNone (print_transparent printer s code).state
  transparent_none code s e = none_line (code == 32) (transparent_space printer s) (character printer s code) e e

  leave_none : (handover : Handover) (s : State) → HasNone s → HasNone (leave_frame printer s handover).state
  leave_none Previous s e = e
  leave_none Current s e = none_line s.in_frame (leave_at_pen printer s) (moving s) e e

  enter_none : (handover : Handover) (s : State) → HasNone s → HasNone (enter_frame printer s handover).state
  enter_none Previous s e = e
  enter_none Current s e = e

  setting_none : (setting : Setting) (n : ℕ) (s : State) → HasNone s → HasNone (set_pen s setting n).state
  setting_none settings.Pen n s e = e
  setting_none settings.Width n s e = e

  motion_none : (motion : Motion) (s : State) → HasNone s → HasNone (motion_step printer s motion).state
  motion_none Up s e = e
  motion_none Absolute s e = e
  motion_none Relative s e = e
  motion_none Down s e = none_line s.settings.job.pen.is_down (moving s) (draw printer s s.settings.job.pen.place) e e

  move_none : (to : ℤ × ℤ) (s : State) → HasNone s → HasNone (move_pen printer s to).state
  move_none to s e =
      let target = pen_target s.settings.job.pen to in
      none_line s.settings.job.pen.is_down (draw printer s target) (carry_pen s target) e e

module _ (printer : Printer) (defaults : Settings) where
  command_none : (command : Command) (n : Amount) → is_of_raster (Parameterized command n) ≡ false → (s : State) → HasNone s →
      LeavesNone (command_transition printer defaults s command n)
  command_none Sides n r s e = (e, λ t k. k)
  command_none Source n r s e = (e, λ t k. k)
  command_none PageSize n r s e = (e, λ t k. k)
  command_none Orientation n r s e = (e, λ t k. k)
  command_none CursorStack n r s e = stack_none n s e
  command_none RasterResolution n r s e = absurd (false≢true (sym r))
  command_none StartRaster n r s e = absurd (false≢true (sym r))
  command_none RasterWidth n r s e = absurd (false≢true (sym r))
  command_none RasterHeight n r s e = absurd (false≢true (sym r))
  command_none RasterPresentation n r s e = absurd (false≢true (sym r))
  command_none EndRaster n r s e = absurd (false≢true (sym r))
  command_none EndRasterAndMethod n r s e = absurd (false≢true (sym r))
  command_none CompressionMethod n r s e = absurd (false≢true (sym r))
  command_none RasterOffset n r s e = absurd (false≢true (sym r))
  -- all others leave the raster alone
  command_none _ n r s e = e

  item_none : (item : Entry) → is_of_raster item ≡ false → (s : State) → HasNone s → LeavesNone (transition_of printer defaults s item)
  item_none (Text code) r s e = byte_none printer code s e
  item_none CarriageReturn r s e =
      none_either (line_termination s).feeds_at_return (feed_by printer (carriage_return s) WholeLine) (Step (moving (carriage_return s)))
      (feed_none printer WholeLine (carriage_return s) e) e
  item_none LineFeed r s e = fed_none printer (line_termination s).returns_at_feed s e
  item_none FormFeed r s e = ended_none printer (line_termination s).returns_at_feed s e
  item_none Reset r s e = (e, λ t k. refl)
  item_none ExitLanguage r s e = (e, λ t k. refl)
  item_none ClearMargins r s e = e
  item_none HalfLineFeed r s e = feed_none printer HalfLine s e
  item_none (Parameterized command n) r s e = command_none command n r s e
  item_none (SymbolSet n letter) r s e = e
  item_none DefaultFont r s e = e
  item_none (EnterFrame handover) r s e = enter_none printer handover s e
  item_none (LeaveFrame handover) r s e = leave_none printer handover s e
  item_none Initialize r s e = e
  item_none (Set setting n) r s e = setting_none printer setting n s e
  item_none (Move motion to) r s e = motion_none printer motion s e
  item_none (WithData TransparentText bytes) r s e = e
  item_none (WithData RasterRow bytes) r s e = absurd (false≢true (sym r))
  item_none (PjlLine line) r s e = e

-- ---- items of rasters

some_place : (raster : Option StartedRaster) (y : ℤ) → IsPlaced raster (Some y)
some_place None y = tt
some_place (Some raster) y = tt

-- so many rows down there is a place
rows_placed : (s : State) (rows : ℕ) → HasPlace (rows_down s rows)
rows_placed s rows =
    some_place (option_map (raster_behind rows) s.raster) (place_behind s.settings.job.raster.resolution (vertical_place s) rows)

module _ (printer : Printer) (defaults : Settings) where
  command_placed : (command : Command) (n : Amount) → is_of_raster (Parameterized command n) ≡ true → (s : State) → HasPlace s →
      LeavesPlace (command_transition printer defaults s command n)
  command_placed RasterResolution n r s h = h
  command_placed RasterWidth n r s h = h
  command_placed RasterHeight n r s h = h
  command_placed RasterPresentation n r s h = h
  command_placed CompressionMethod n r s h = h
  command_placed EndRaster n r s h = tt
  command_placed EndRasterAndMethod n r s h = tt
  command_placed StartRaster n r s h = tt
  command_placed RasterOffset n r s h = rows_placed s (whole_of n)
  command_placed _ n r s h = absurd (false≢true r)

  item_placed : (item : Entry) → is_of_raster item ≡ true → (s : State) → HasPlace s → LeavesPlace (transition_of printer defaults s item)
  item_placed (Parameterized command n) r s h = command_placed command n r s h
  item_placed (WithData RasterRow bytes) r s h = rows_placed s 1
  item_placed (WithData TransparentText bytes) r s h = absurd (false≢true r)
  item_placed _ r s h = absurd (false≢true r)

-- what is read where a started raster has a place
page_alone : (o : Option StartedRaster) (y : Option ℤ) (raster : StartedRaster) → o ≡ Some raster → IsPlaced o y →
    Size ∷ OrientationField ∷ vertical_reads y ≡ Size ∷ OrientationField ∷ []
page_alone None y raster e h = absurd cc
page_alone (Some started) None raster e h = absurd h
page_alone (Some started) (Some y) raster e h = refl

pub rasters_have_places : (printer : Printer) (defaults : Settings) → RastersHavePlaces printer defaults
rasters_have_places printer defaults = record {
  others = item_none printer defaults;
  bytes = transparent_none printer;
  moves = move_none printer;
  rasters = item_placed printer defaults;
  skips = λ n s raster e h. page_alone s.raster s.cursor.y raster e h;
  rows = λ bytes s raster e h. page_alone s.raster s.cursor.y raster e h;
}
