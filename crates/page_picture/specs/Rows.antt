-- The runs of black pixels of a row of a raster.
use Rattle.std.specs.Prelude.{ℕ, zero, suc, ◌+◌, ◌-◌, ◌*◌, ◌/◌, ◌%◌, ◌==◌, ◌&&◌, ◌||◌, not, Bool, if◌then◌else◌, List}
use Rattle.std.specs.Prelude.{[], ◌∷◌, ◌++◌, length, get_or, flat_map, codes, decimal}
use Rattle.std.specs.Int.{bit_at}
use Rattle.std.specs.List.{range_with_len}

-- whether a pixel is black: each byte has eight, the high bit first
abbrev pub is_black : List ℕ → ℕ → Bool
is_black bytes pixel = bit_at (get_or bytes (pixel / 8) 0) (7 - pixel % 8) == 1

-- how many pixels are black from one on, of so many that are left
abbrev pub black_from : List ℕ → (pixel left : ℕ) → ℕ
black_from bytes pixel zero = 0
black_from bytes pixel (suc left) = if is_black bytes pixel then 1 + black_from bytes (pixel + 1) left else 0

-- a run begins at a black pixel that stands first or behind a white one
unfoldable pub begins_run : List ℕ → ℕ → Bool
begins_run bytes pixel = is_black bytes pixel && ((pixel == 0) || not (is_black bytes (pixel - 1)))

-- so many pixels from one on, as a rectangle of a path whose unit is a pixel
unfoldable pub run_text : (pixel count : ℕ) → List ℕ
run_text pixel count = 77 ∷ decimal pixel ++ codes " 0h" ++ decimal count ++ codes "v1h-" ++ decimal count ++ codes "z"

-- the run that begins at a pixel, where one does
unfoldable pub run_at : List ℕ → ℕ → List ℕ
run_at bytes pixel =
    if begins_run bytes pixel then run_text pixel (black_from bytes pixel (8 * length bytes - pixel)) else []

-- the runs of a row, from left to right
abbrev pub runs_text : List ℕ → List ℕ
runs_text bytes = flat_map (run_at bytes) (range_with_len 0 (8 * length bytes))
