-- The rows of a profile, and what one of a page holds.
use Rattle.std.specs.Prelude.{ℕ, ◌*◌, ◌||◌, Bool, false, List, [], ◌∷◌, slice_index, pos, ℤ}
use Rattle.std.specs.List.{list_any}
use Rattle.tick_length.specs.Measures.{ticks_per_7200th}
use Rattle.device_profile.specs.declared.geometry.Geometry.{Geometry}

-- some row is like an earlier one
abbrev pub has_alike : {Row : Type 0} → (Row → Row → Bool) → List Row → Bool
has_alike is_like [] = false
has_alike is_like (row ∷ rows) = list_any (is_like row) rows || has_alike is_like rows

-- a length of so many 7200ths of an inch
abbrev pub of_7200ths : ℕ → ℤ
of_7200ths n = pos (n * ticks_per_7200th)

-- size and orientation; then, in 7200ths of an inch, the page's width and height, the logical page's left, top,
-- width and height, and the printable area's left, top, right and bottom
abbrev pub row_of : List ℕ → Geometry
row_of numbers = record {
  size = slice_index numbers 0;
  orientation = slice_index numbers 1;
  page_width = of_7200ths (slice_index numbers 2);
  page_height = of_7200ths (slice_index numbers 3);
  logical_left = of_7200ths (slice_index numbers 4);
  logical_top = of_7200ths (slice_index numbers 5);
  logical_width = of_7200ths (slice_index numbers 6);
  logical_height = of_7200ths (slice_index numbers 7);
  printable_left = of_7200ths (slice_index numbers 8);
  printable_top = of_7200ths (slice_index numbers 9);
  printable_right = of_7200ths (slice_index numbers 10);
  printable_bottom = of_7200ths (slice_index numbers 11);
}
