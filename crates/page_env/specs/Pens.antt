-- The pen of an HP-GL/2 frame (`IN`, `SP`, `PW`, `PU`, `PD`, `PA`, `PR`).
use Rattle.std.specs.Prelude.{ℕ, ℤ, pos, ◌*◌, ◌/◌, ◌==◌, nat_lt, unsigned_abs, true, false, not, ◌&&◌, ◌||◌, Bool, cond}
use Rattle.std.specs.Prelude.{◌+ℤ◌, ◌*ℤ◌, List, [], ◌∷◌}
use Rattle.tick_length.specs.declared.unit.Unit.TheVariants.{Millimetre}
use Rattle.tick_length.specs.Measures.{ticks_per_plotter_unit}
use Rattle.pcl_items.specs.declared.frame.Motion.{Motion}
use Rattle.pcl_items.specs.declared.frame.Motion.TheVariants.{Up, Down, Absolute, Relative}
use Rattle.pcl_items.specs.declared.frame.Setting.{Setting}
use Rattle.pcl_items.specs.declared.frame.Setting.TheVariants as settings
use Rattle.device_profile.specs.declared.geometry.Geometry.{Geometry}
use Rattle.device_profile.specs.Printer.{Printer}
use Rattle.page_env.specs.declared.finding.Finding.TheVariants.{BadValue, NoPen, NotPrintable, OutsideFrame}
use Rattle.page_env.specs.declared.frames.Frame.{Frame}
use Rattle.page_env.specs.declared.mark.PenLine.{PenLine}
use Rattle.page_env.specs.declared.page.Pen.{Pen}
use Rattle.page_env.specs.declared.page.PenPlace.{PenPlace}
use Rattle.page_env.specs.declared.places.Origin.{Origin}
use Rattle.page_env.specs.declared.target.Target.{Target}
use Rattle.page_env.specs.Settings.{State, default_pen, with_job}
use Rattle.page_env.specs.Places.{ticks_in, page_reads, geometry_of, origin_of}
use Rattle.page_env.specs.Mark.{Line as Drawn, line_bounds, is_inside}
use Rattle.page_env.specs.Effect.{Check, check, TableLine, moving, setting}
use Rattle.page_env.specs.Frames.{frame_of, x_on_page, y_on_page, is_in_frame}

abbrev pub with_pen : State → Pen → State
with_pen s pen = with_job s (record s.settings.job { pen = pen })

-- ---- settings

-- `IN` initialize; the picture frame stays
abbrev pub initialize : State → TableLine
initialize s = moving (with_pen s default_pen)

-- `SP` select pen: 0, which draws nothing, or 1, in ten-thousandths
abbrev pub select_pen : State → ℕ → TableLine
select_pen s n =
    setting (check (not ((n == 0) || (n == 10_000))) BadValue ∷ [])
    (with_pen s (record s.settings.job.pen { number = n / 10_000 }))

-- `PW` pen width, in ten-thousandths of a millimetre
abbrev pub set_pen_width : State → ℕ → TableLine
set_pen_width s n = setting (check (n == 0) BadValue ∷ []) (with_pen s (record s.settings.job.pen { width = n }))

-- `SP` and `PW`
abbrev pub set_pen : State → Setting → ℕ → TableLine
set_pen s settings.Pen n = select_pen s n
set_pen s settings.Width n = set_pen_width s n

-- ---- lines

-- a line of this width between two places of a frame, where the logical page begins at this origin
abbrev pub line_between : Origin → Frame → ℕ → PenPlace → PenPlace → PenLine
line_between origin frame width start end = record {
  width = pos (ticks_in Millimetre width);
  x0 = origin.x +ℤ x_on_page frame start.x;
  y0 = origin.y +ℤ y_on_page frame start.y;
  x1 = origin.x +ℤ x_on_page frame end.x;
  y1 = origin.y +ℤ y_on_page frame end.y;
}

-- how far the pen may be from the origin: 8,388,607 plotter units
abbrev pub furthest : ℕ
furthest = 8_388_607 * ticks_per_plotter_unit

-- along either axis
abbrev pub is_too_far : PenPlace → Bool
is_too_far place = nat_lt furthest (unsigned_abs place.x) || nat_lt furthest (unsigned_abs place.y)

-- both ends of a line lie in the frame, and the pen goes no further than it may
abbrev pub stays_in_frame : Frame → PenPlace → PenPlace → Bool
stays_in_frame frame start end = is_in_frame frame start && is_in_frame frame end && not (is_too_far end)

-- what may be wrong with a line once the page is known
abbrev pub line_checks : Geometry → Origin → Frame → ℕ → PenPlace → PenPlace → List Check
line_checks g origin frame width start end =
    check (not (is_inside g (line_bounds (line_between origin frame width start end)))) NotPrintable
    ∷ check (not (stays_in_frame frame start end)) OutsideFrame ∷ []

-- the pen, down, draws a line to a place and stays there
abbrev pub draw : Printer → State → PenPlace → TableLine
draw printer s to =
    let origin = origin_of printer s in
    let pen : Pen = s.settings.job.pen in
    record {
      checks_before = check (pen.number == 0) NoPen ∷ [];
      reads = page_reads;
      checks_after = line_checks (geometry_of printer s) origin (frame_of printer s) pen.width pen.place to;
      state = record (with_pen s (record pen { is_down = true; place = to })) { marked = true };
      marks = Drawn (line_between origin (frame_of printer s) pen.width pen.place to) ∷ [];
    }

-- ---- motion

-- `PU` pen up
abbrev pub raise_pen : State → TableLine
raise_pen s = moving (with_pen s (record s.settings.job.pen { is_down = false }))

-- `PD` pen down: a raised pen marks a line of no length where it is
abbrev pub lower_pen : Printer → State → TableLine
lower_pen printer s = cond s.settings.job.pen.is_down (moving s) (draw printer s s.settings.job.pen.place)

-- `PA` plot absolute
abbrev pub plot_absolute : State → TableLine
plot_absolute s = moving (with_pen s (record s.settings.job.pen { is_relative = false }))

-- `PR` plot relative
abbrev pub plot_relative : State → TableLine
plot_relative s = moving (with_pen s (record s.settings.job.pen { is_relative = true }))

-- the own step of a command that moves the pen
abbrev pub motion_step : Printer → State → Motion → TableLine
motion_step printer s Up = raise_pen s
motion_step printer s Down = lower_pen printer s
motion_step printer s Absolute = plot_absolute s
motion_step printer s Relative = plot_relative s

-- the place of a target
abbrev pub place_of : Target → PenPlace
place_of target = record { x = target.x; y = target.y }

-- where so many plotter units lead along an axis: from the pen where it is relative, and from the origin otherwise
abbrev pub reached : (is_relative : Bool) → (here units : ℤ) → ℤ
reached is_relative here units =
    cond is_relative (here +ℤ (units *ℤ pos ticks_per_plotter_unit)) (units *ℤ pos ticks_per_plotter_unit)

abbrev pub pen_target : Pen → ℤ × ℤ → PenPlace
pen_target pen to =
    record { x = reached pen.is_relative pen.place.x to.0; y = reached pen.is_relative pen.place.y to.1 }

-- the raised pen moves to a place
abbrev pub carry_pen : State → PenPlace → TableLine
carry_pen s to = record (moving (with_pen s (record s.settings.job.pen { place = to }))) {
  checks_after = check (is_too_far to) OutsideFrame ∷ [];
}

-- a pair of coordinates moves the pen, behind the own step of its command: where it is down it draws
abbrev pub move_pen : Printer → State → ℤ × ℤ → TableLine
move_pen printer s to =
    let target = pen_target s.settings.job.pen to in
    cond s.settings.job.pen.is_down (draw printer s target) (carry_pen s target)
