-- Frames and the pen, computed from the definitions.
use Rattle.std.proofs.Common.{◌≡◌, ℕ, ◌*◌, ◌+◌, pos, true, [], ◌∷◌, None, Some, refl}
use Rattle.std.specs.Prelude.{◌-ℤ◌}
use Rattle.pcl_items.specs.declared.frame.Handover.TheVariants.{Current}
use Rattle.pcl_items.specs.declared.number.Sign.TheVariants.{Absent}
use Rattle.pcl_items.specs.Escapes.Value.{Amount}
use Rattle.device_profile.specs.declared.panel.Panel.{Panel}
use Rattle.device_profile.specs.Printer.{row_at, geometry_at}
use Rattle.device_profile.specs.Samples.{printer_a}
use Rattle.page_env.specs.declared.finding.Finding.TheVariants.{BadValue, OffPage, NotPrintable, NoPen, OutsideFrame}
use Rattle.page_env.specs.declared.page.Pen.{Pen}
use Rattle.page_env.specs.declared.mark.PenLine.{PenLine}
use Rattle.page_env.specs.Settings.{State, start_state, user_defaults, unwatched, default_pen, with_job}
use Rattle.page_env.specs.Places.{page_reads, is_between}
use Rattle.page_env.specs.Mark.{Line as Drawn, is_inside}
use Rattle.page_env.specs.Effect.{TableLine, Step, Effect, Goes, Fails, effect_of}
use Rattle.page_env.specs.Frames.{set_frame_anchor, set_frame_width, enter_frame, leave_frame}
use Rattle.page_env.specs.Pens.{with_pen, initialize, select_pen, set_pen_width, lower_pen, move_pen}

-- letter paper in portrait, 6 lines to the inch
abbrev letter : Panel
letter = record { size = 2; orientation = 0; vmi = 80_000; font = 1; copies = 1; sides = 0; tray = 1; line_termination = 0 }

abbrev start : State
start = start_state None (user_defaults unwatched letter)

abbrev number : ℕ → Amount
number n = record { sign = Absent; ten_thousandths = n * 10_000 }

abbrev effect : State → TableLine → Effect
effect s line = effect_of s.settings (Step line)

-- a line of 0.35 mm
abbrev thin : (x0 y0 x1 y1 : ℕ) → PenLine
thin x0 y0 x1 y1 = record { width = pos 504_000_000; x0 = pos x0; y0 = pos y0; x1 = pos x1; y1 = pos y1 }

-- pen 1 is selected, and so many plotter units from the origin
abbrev pen_1 : Pen
pen_1 = record default_pen { number = 1 }

abbrev units : ℕ → ℕ → Pen → Pen
units x y pen = record pen { place = record { x = pos (x * 36_000_000); y = pos (y * 36_000_000) } }

abbrev lowered : Pen → Pen
lowered pen = record pen { is_down = true }

abbrev relative : Pen → Pen
relative pen = record pen { is_relative = true }

abbrev holding : Pen → State
holding pen = with_pen start pen

abbrev marked : Pen → State
marked pen = record (holding pen) { marked = true }

-- the origin is half an inch above the foot of the logical page, at its left edge
dot_at_the_origin : effect (holding pen_1) (lower_pen printer_a (holding pen_1))
    ≡ Goes (marked (lowered pen_1)) (Drawn (thin 9_144_000_000 384_048_000_000 9_144_000_000 384_048_000_000) ∷ [])
unfolding geometry_at row_at page_reads is_inside is_between
dot_at_the_origin = refl

-- from the origin, and then from the pen
line_to_100_100 : effect (holding (lowered pen_1)) (move_pen printer_a (holding (lowered pen_1)) (pos 100, pos 100))
    ≡ Goes (marked (units 100 100 (lowered pen_1))) (Drawn (thin 9_144_000_000 384_048_000_000 12_744_000_000 380_448_000_000) ∷ [])
unfolding geometry_at row_at page_reads is_inside is_between
line_to_100_100 = refl

line_from_100_100 :
    effect (holding (units 100 100 (lowered pen_1))) (move_pen printer_a (holding (units 100 100 (lowered pen_1))) (pos 0, pos 200))
    ≡ Goes (marked (units 0 200 (lowered pen_1))) (Drawn (thin 12_744_000_000 380_448_000_000 9_144_000_000 376_848_000_000) ∷ [])
unfolding geometry_at row_at page_reads is_inside is_between
line_from_100_100 = refl

raised_pens_go_on_from_their_place :
    effect (holding (relative (units 5 5 default_pen))) (move_pen printer_a (holding (relative (units 5 5 default_pen))) (pos 5, pos 5))
    ≡ Goes (holding (relative (units 10 10 default_pen))) []
raised_pens_go_on_from_their_place = refl

-- pen 0 draws nothing, and a lowered pen is not lowered again
pen_0_draws_nothing : effect (holding default_pen) (lower_pen printer_a (holding default_pen)) ≡ Fails NoPen
pen_0_draws_nothing = refl

lowered_pens_stay :
    effect (holding (lowered default_pen)) (lower_pen printer_a (holding (lowered default_pen))) ≡ Goes (holding (lowered default_pen)) []
lowered_pens_stay = refl

-- a line that leaves the frame, and one that leaves the printable area, too
left_of_the_frame :
    effect (holding (lowered pen_1)) (move_pen printer_a (holding (lowered pen_1)) (pos 0 -ℤ pos 1, pos 0)) ≡ Fails OutsideFrame
unfolding geometry_at row_at page_reads is_inside is_between
left_of_the_frame = refl

left_of_the_paper :
    effect (holding (lowered pen_1)) (move_pen printer_a (holding (lowered pen_1)) (pos 0 -ℤ pos 1_500, pos 0)) ≡ Fails NotPrintable
unfolding geometry_at row_at page_reads is_inside is_between
left_of_the_paper = refl

-- how far the pen goes, and no further
at_the_limit : effect (holding default_pen) (move_pen printer_a (holding default_pen) (pos 8_388_607, pos 0))
    ≡ Goes (holding (units 8_388_607 0 default_pen)) []
at_the_limit = refl

past_the_limit : effect (holding (relative (units 8_388_607 0 default_pen)))
    (move_pen printer_a (holding (relative (units 8_388_607 0 default_pen))) (pos 1, pos 0))
    ≡ Fails OutsideFrame
past_the_limit = refl

-- the part of a unit that the cursor left counts
abbrev behind_the_cursor : Pen
behind_the_cursor = record (relative default_pen) { place = record { x = pos 12_192_000_000; y = pos 0 } }

part_of_a_unit_past_the_limit :
    effect (holding behind_the_cursor) (move_pen printer_a (holding behind_the_cursor) (pos 8_388_269, pos 0)) ≡ Fails OutsideFrame
part_of_a_unit_past_the_limit = refl

part_of_a_unit_below_the_limit : effect (holding behind_the_cursor) (move_pen printer_a (holding behind_the_cursor) (pos 8_388_268, pos 0))
    ≡ Goes (holding (record behind_the_cursor { place = record { x = pos (12_192_000_000 + 8_388_268 * 36_000_000); y = pos 0 } })) []
part_of_a_unit_below_the_limit = refl

-- half the width of a line must fit, too: the origin is 1/12 inch from the edge of the printable area
abbrev wide : ℕ → Pen
wide width = record pen_1 { width = width }

dot_at_the_edge : effect (holding (wide 42_333)) (lower_pen printer_a (holding (wide 42_333)))
    ≡ Goes (marked (lowered (wide 42_333)))
    (Drawn (record (thin 9_144_000_000 384_048_000_000 9_144_000_000 384_048_000_000) { width = pos 6_095_952_000 }) ∷ [])
unfolding geometry_at row_at page_reads is_inside is_between
dot_at_the_edge = refl

dot_past_the_edge : effect (holding (wide 42_334)) (lower_pen printer_a (holding (wide 42_334))) ≡ Fails NotPrintable
unfolding geometry_at row_at page_reads is_inside is_between
dot_past_the_edge = refl

-- a frame so far down that its origin lies below the page
abbrev low : State
low =
    record
    (with_job start (record start.settings.job { frame = record start.settings.job.frame { top = pos 91_440_000_000 }; pen = pen_1 })) {
      in_frame = true;
    }

no_cursor_below_the_page : effect low (leave_frame printer_a low Current) ≡ Fails OffPage
unfolding geometry_at row_at page_reads is_between
no_cursor_below_the_page = refl

no_line_below_the_page : effect low (lower_pen printer_a low) ≡ Fails NotPrintable
unfolding geometry_at row_at page_reads is_inside is_between
no_line_below_the_page = refl

-- an anchor puts the pen at the origin, and the cursor's home becomes a number
anchored : effect (holding (units 9 9 pen_1)) (set_frame_anchor (holding (units 9 9 pen_1)) (number 0))
    ≡ Goes (record start {
      settings = record start.settings {
        job = record start.settings.job { frame = record start.settings.job.frame { top = pos 22_860_000_000 }; pen = pen_1 };
      };
      cursor = record start.cursor { y = Some (pos 22_860_000_000) };
    }) []
anchored = refl

anchor_1_is_none : effect start (set_frame_anchor start (number 1)) ≡ Fails BadValue
anchor_1_is_none = refl

no_width_is_none : effect start (set_frame_width start (number 0)) ≡ Fails BadValue
no_width_is_none = refl

-- 1/12 inch down and to the right of the corner of the logical page
abbrev at_100 : State
at_100 = record start { cursor = record { x = pos 12_192_000_000; y = Some (pos 30_480_000_000) } }

pen_comes_to_the_cursor : effect at_100 (enter_frame printer_a at_100 Current)
    ≡ Goes
    (record (with_pen at_100 (record default_pen { place = record { x = pos 12_192_000_000; y = pos 353_568_000_000 } })) {
      in_frame = true;
    })
    []
unfolding geometry_at row_at
pen_comes_to_the_cursor = refl

-- the cursor goes back to where the pen came from
cursor_comes_to_the_pen :
    effect (record (with_pen start (record default_pen { place = record { x = pos 12_192_000_000; y = pos 353_568_000_000 } })) {
      in_frame = true;
    })
    (leave_frame printer_a
    (record (with_pen start (record default_pen { place = record { x = pos 12_192_000_000; y = pos 353_568_000_000 } })) {
      in_frame = true;
    })
    Current)
    ≡ Goes (with_pen at_100 (record default_pen { place = record { x = pos 12_192_000_000; y = pos 353_568_000_000 } })) []
unfolding geometry_at row_at page_reads is_between
cursor_comes_to_the_pen = refl

outside_a_frame_nothing_is_left : effect start (leave_frame printer_a start Current) ≡ Goes start []
outside_a_frame_nothing_is_left = refl

-- `IN` leaves the frame alone
initialized : effect (holding (relative (lowered (units 9 9 pen_1)))) (initialize (holding (relative (lowered (units 9 9 pen_1)))))
    ≡ Goes (holding default_pen) []
initialized = refl

pens_above_1_are_none : effect start (select_pen start 20_000) ≡ Fails BadValue
pens_above_1_are_none = refl

half_a_pen_is_none : effect start (select_pen start 5_000) ≡ Fails BadValue
half_a_pen_is_none = refl

width_0_is_none : effect start (set_pen_width start 0) ≡ Fails BadValue
width_0_is_none = refl
