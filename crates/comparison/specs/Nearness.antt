-- Two further relations, in which jobs may print the same: pages as bags of marks, and marks that lie near. No command
-- asks for these yet.
use Rattle.std.specs.Prelude.{◌≡◌, ℕ, ℤ, Bool, true, false, ◌&&◌, ◌==◌, ◌-ℤ◌, nat_le, unsigned_abs, List, [], ◌∷◌}
use Rattle.std.specs.List.Sorted.{IsPermutation}
use Rattle.std.specs.Ordering.{int_eq}
use Rattle.device_profile.specs.Faces.{is_same_request}
use Rattle.page_env.specs.declared.mark.Bounds.{Bounds}
use Rattle.page_env.specs.Mark.{Shape, Rectangle, Character, Row, Line, pixels_per_inch}
use Rattle.page_machine.specs.Event.{Event, Marked, Ended}
use Rattle.page_machine.specs.Pages.{PrintedPage, pages}
use Rattle.sinks.specs.Same.{are_same_bytes, is_same_end, is_same_fill}

-- ---- in any order

-- two pages that end with the same five values, and have the same marks, each as often
abbrev pub HasSameMarks : PrintedPage → PrintedPage → Type 0
HasSameMarks a b = (a.end ≡ b.end) × IsPermutation a.marks b.marks

abbrev pub HaveSameMarks : List PrintedPage → List PrintedPage → Type 0
HaveSameMarks [] [] = Unit {0}
HaveSameMarks (a ∷ old) (b ∷ new) = HasSameMarks a b × HaveSameMarks old new
HaveSameMarks _ _ = ⊥

-- the pages of both are the same but for the order in which their marks are made
abbrev pub AreSameInAnyOrder : List Event → List Event → Type 0
AreSameInAnyOrder old new = HaveSameMarks (pages old) (pages new)

-- ---- within a distance, in ticks

abbrev pub is_near : ℕ → ℤ → ℤ → Bool
is_near distance a b = nat_le (unsigned_abs (a -ℤ b)) distance

-- each edge lies that near
abbrev pub is_near_box : ℕ → Bounds → Bounds → Bool
is_near_box distance a b =
    is_near distance a.left b.left && is_near distance a.top b.top && is_near distance a.right b.right
    && is_near distance a.bottom b.bottom

-- two marks that are the same but for their edges, their baselines or their ends, which lie that near
abbrev pub is_near_shape : ℕ → Shape → Shape → Bool
is_near_shape distance (Rectangle a) (Rectangle b) =
    is_same_fill a.fill b.fill && is_near_box distance a.bounds b.bounds
is_near_shape distance (Character a) (Character b) =
    (a.code == b.code) && is_same_request a.request b.request && is_near distance a.y b.y
    && is_near_box distance a.bounds b.bounds
is_near_shape distance (Row a) (Row b) =
    (pixels_per_inch a.resolution == pixels_per_inch b.resolution) && are_same_bytes a.bytes b.bytes
    && is_near distance a.x b.x && is_near distance a.y b.y
is_near_shape distance (Line a) (Line b) =
    int_eq a.width b.width && is_near distance a.x0 b.x0 && is_near distance a.y0 b.y0
    && is_near distance a.x1 b.x1 && is_near distance a.y1 b.y1
is_near_shape distance _ _ = false

abbrev pub is_near_event : ℕ → Event → Event → Bool
is_near_event distance (Marked a) (Marked b) = is_near_shape distance a b
is_near_event distance (Ended a) (Ended b) = is_same_end a b
is_near_event distance _ _ = false

-- event by event; within 0 ticks they are the same
abbrev pub are_near : ℕ → List Event → List Event → Bool
are_near distance [] [] = true
are_near distance (a ∷ old) (b ∷ new) = is_near_event distance a b && are_near distance old new
are_near distance _ _ = false
