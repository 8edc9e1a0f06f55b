-- The commands that the sheet is made of.
use Rattle.std.specs.Prelude.{ℕ, List, [], ◌∷◌, ◌++◌, codes, decimal}
use Rattle.device_profile.specs.declared.font.FontRequest.{FontRequest}
use Rattle.shown_bytes.specs.Lettered.{lettered}
use Rattle.test_sheet.specs.Figures.{amount, signed_amount}

-- reset
abbrev pub reset : List ℕ
reset = 27 ∷ codes "E"

-- an inch has 300 PCL units
abbrev pub unit_of_measure : List ℕ
unit_of_measure = 27 ∷ codes "&u300D"

-- one copy, on one side, from this tray; CR, LF and FF stand for themselves
unfoldable pub sheet_settings : ℕ → List ℕ
sheet_settings tray = 27 ∷ codes "&l1x0s" ++ decimal tray ++ 72 ∷ 27 ∷ codes "&k0G"

-- the size and the orientation of a page, lines of 8/48 inch, and no top margin, so that places count from
-- the logical page's corner
unfoldable pub page_request : ℕ → ℕ → List ℕ
page_request size orientation = 27 ∷ codes "&l" ++ decimal size ++ 97 ∷ decimal orientation ++ codes "o8c0E"

-- the pitch and the height of a font of fixed spacing, and its style, stroke weight and typeface
unfoldable pub font_size : FontRequest → List ℕ
font_size request = 27 ∷ codes "(s0p" ++ amount request.pitch ++ codes "h" ++ amount request.height ++ codes "v"

unfoldable pub font_look : FontRequest → List ℕ
font_look request =
    amount request.style ++ codes "s" ++ signed_amount request.weight ++ codes "b" ++ amount request.typeface
    ++ codes "T"

-- the seven parts that select a font
unfoldable pub font_request : FontRequest → List ℕ
font_request request =
    27 ∷ codes "(" ++ lettered request.symbol_set.number request.symbol_set.letter ++ font_size request
    ++ font_look request

-- to a place, in dots from the logical page's corner
unfoldable pub move_to : ℕ → ℕ → List ℕ
move_to x y = 27 ∷ codes "*p" ++ decimal x ++ codes "x" ++ decimal y ++ codes "Y"

unfoldable pub move_across : ℕ → List ℕ
move_across x = 27 ∷ codes "*p" ++ decimal x ++ codes "X"

-- one line down
abbrev pub line_down : List ℕ
line_down = 27 ∷ codes "&a+1R"

-- a black rectangle of so many dots
unfoldable pub rectangle : ℕ → ℕ → List ℕ
rectangle width height = 27 ∷ codes "*c" ++ decimal width ++ codes "a" ++ decimal height ++ codes "b0P"

-- the end of a page
abbrev pub form_feed : List ℕ
form_feed = 12 ∷ []
