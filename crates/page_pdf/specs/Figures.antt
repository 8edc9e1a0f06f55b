-- Numbers as they mark a page, whose unit is 1/7200 inch, down from its upper edge; each with a space behind it.
use Rattle.std.specs.Prelude.{ℕ, ℤ, pos, ◌-◌, ◌*◌, ◌/◌, unsigned_abs, List, [], ◌∷◌, ◌++◌}
use Rattle.page_env.specs.declared.mark.Bounds.{Bounds}
use Rattle.page_picture.specs.Attributes.{span}
use Rattle.page_picture.specs.Figures.{hundredths, units}
use Rattle.shown_bytes.specs.Decimals.{with_four_decimals, with_hundredths}
use Rattle.shown_bytes.specs.Shown.{hex_byte}

-- so many hundredths of a unit
unfoldable pub figure : ℤ → List ℕ
figure n = units n ++ 32 ∷ []

-- a length, or a place on the page
abbrev pub length_figure : ℤ → List ℕ
length_figure length = figure (hundredths length)

-- a box by its upper left corner, and by how far its other edges lie from there
unfoldable pub box_figures : Bounds → List ℕ
box_figures box =
    length_figure box.left ++ length_figure box.top ++ figure (span box.left box.right)
    ++ figure (span box.top box.bottom)

-- a height of so many ten-thousandths of a point, each of which is a hundredth of a unit
unfoldable pub height_figure : ℕ → List ℕ
height_figure height = with_hundredths height ++ 32 ∷ []

-- a side of a page in points, of which a unit is a hundredth; none is less than 0
unfoldable pub points : ℤ → List ℕ
points length = with_four_decimals (unsigned_abs (hundredths length))

-- how many hundredths of a unit lie between the edges of a box, which is on the sheet: none lies left of it
abbrev pub box_width : Bounds → ℕ
box_width box = unsigned_abs (hundredths box.right) - unsigned_abs (hundredths box.left)

-- how many of these letters are wide that come to such a box: Courier's go on by six tenths of that
abbrev pub letter_width : Bounds → ℤ
letter_width box = pos (box_width box * 5 / 3)

-- the code of a letter by two digits
unfoldable pub code_digits : ℕ → List ℕ
code_digits code = hex_byte code
