-- The vertical motion index by how many lines a page has.
use Rattle.std.specs.Prelude.{ℕ, ◌-◌, ◌*◌, ◌/◌, ◌%◌, ◌==◌, Bool, List, [], ◌∷◌, Option, find, option_map, slice_index}
use Rattle.std.specs.Prelude.{unwrap_or, if◌then◌else◌}
use Rattle.printer_models.specs.declared.paper.Paper.{Paper}
use Rattle.printer_models.specs.Page.{page_numbers}

-- the height of a page's text in 7200ths of an inch: the logical page without half an inch at its top and its bottom
abbrev pub text_height : Paper → ℕ → ℕ
text_height paper orientation = slice_index (page_numbers paper orientation) 7 - 7_200

-- 1/48 inch in 7200ths of an inch
abbrev pub unit : ℕ
unit = 150

-- what the height leaves for each line, in ten-thousandths of 1/48 inch, cut
abbrev pub line_share : ℕ → ℕ → ℕ
line_share height lines = height * 10_000 / (unit * lines)

-- whether that is a whole number of 1/48 inch
abbrev pub is_whole_share : ℕ → ℕ → Bool
is_whole_share height lines = height % (unit * lines) == 0

-- the distances of lines that a panel has, in 1/48 inch
abbrev pub usual_distances : List ℕ
usual_distances = 4 ∷ 6 ∷ 8 ∷ 12 ∷ 16 ∷ 24 ∷ []

-- the first of them by which the height holds exactly so many whole lines
abbrev pub usual_distance : ℕ → ℕ → Option ℕ
usual_distance height lines = find (λ distance. height / (unit * distance) == lines) usual_distances

-- The VMI in ten-thousandths of 1/48 inch: the share where it is whole, else the usual distance, else the share.
unfoldable pub vmi_by : ℕ → ℕ → ℕ
vmi_by height lines =
    if is_whole_share height lines
    then line_share height lines
    else unwrap_or (option_map (λ distance. distance * 10_000) (usual_distance height lines)) (line_share height lines)
