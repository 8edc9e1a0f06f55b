-- The pages of a paper, by the one rule.
use Rattle.std.specs.Prelude.{ℕ, ◌-◌, ◌*◌, ◌%◌, ◌==◌, Bool, List, [], ◌∷◌, Option, find, option_map, if◌then◌else◌}
use Rattle.device_profile.specs.declared.geometry.Geometry.{Geometry}
use Rattle.device_profile.specs.Rows.{row_of}
use Rattle.printer_models.specs.declared.paper.Measure.{Measure}
use Rattle.printer_models.specs.declared.paper.Measure.TheVariants.{Inch, Metric}
use Rattle.printer_models.specs.declared.paper.Paper.{Paper}
use Rattle.printer_models.specs.declared.paper.Sheet.{Sheet}
use Rattle.printer_models.specs.Paper.{sheet_of, code_of, dots_of}

-- THE RULE. How far from the left edge of the paper the logical page begins, and as far from the right one it ends, in
-- dots of 1/300 inch: 1/4 inch, or 6 mm on metric paper; in landscape 1/5 inch, or 5 mm.
abbrev pub portrait_left : Measure → ℕ
portrait_left Inch = 75
portrait_left Metric = 71

abbrev pub landscape_left : Measure → ℕ
landscape_left Inch = 60
landscape_left Metric = 59

-- how far from each edge of the paper the printable area lies: 1/6 inch
abbrev pub margin : ℕ
margin = 50

-- A row of a profile's text for a page of so many dots: size and orientation; then, in 7200ths of an inch, which are 24
-- to a dot, the page's width and height, the logical page's left, top, width and height, and the printable area's left,
-- top, right and bottom. The logical page is as high as the paper.
abbrev pub numbers_on : ℕ → ℕ → ℕ → ℕ → ℕ → List ℕ
numbers_on code orientation width height left =
    code ∷ orientation
    ∷ 24 * width ∷ 24 * height
    ∷ 24 * left ∷ 0 ∷ 24 * (width - 2 * left) ∷ 24 * height
    ∷ 24 * margin ∷ 24 * margin ∷ 24 * (width - margin) ∷ 24 * (height - margin)
    ∷ []

-- orientations 1 and 3 are landscape, 0 and 2 portrait
abbrev pub is_landscape : ℕ → Bool
is_landscape orientation = orientation % 2 == 1

-- the row of a sheet as it is read in an orientation: in landscape its width is its height
abbrev pub sheet_numbers : Sheet → ℕ → List ℕ
sheet_numbers sheet orientation =
    let width : ℕ = dots_of sheet.measure sheet.width in
    let height : ℕ = dots_of sheet.measure sheet.height in
    if is_landscape orientation
    then numbers_on sheet.code orientation height width (landscape_left sheet.measure)
    else numbers_on sheet.code orientation width height (portrait_left sheet.measure)

-- the row of a paper in an orientation
unfoldable pub page_numbers : Paper → ℕ → List ℕ
page_numbers paper orientation = sheet_numbers (sheet_of paper) orientation

-- the page that it describes
abbrev pub page_of : Paper → ℕ → Geometry
page_of paper orientation = row_of (page_numbers paper orientation)

-- the page of a size and an orientation among these papers
abbrev pub page_at : List Paper → ℕ → ℕ → Option Geometry
page_at papers size orientation =
    option_map (λ paper. page_of paper orientation) (find (λ paper. code_of paper == size) papers)
