-- Text and line ends: bytes that are an item each.
use Rattle.std.specs.Prelude.{◌≡◌, ℕ, ◌+◌, ◌≤◌, ◌==◌, ◌⊎◌, cond, List, [], ◌∷◌}
use Rattle.std.specs.List.{AllByRecursion}
use Rattle.pcl_items.specs.Items.{Entry, Placed, at, Text, CarriageReturn, LineFeed}

-- carriage return, line feed or text: a byte that is an item, whatever stands before and behind it
abbrev pub IsOfLines : ℕ → Type 0
IsOfLines code = (code ≡ 13) ⊎ ((code ≡ 10) ⊎ (32 ≤ code))

abbrev pub AreLines : List ℕ → Type 0
AreLines codes = AllByRecursion IsOfLines codes

-- the item of such a byte
abbrev pub line_item : ℕ → Entry
line_item code = cond (code == 13) CarriageReturn (cond (code == 10) LineFeed (Text code))

-- an item for each byte
abbrev pub line_items : ℕ → List ℕ → List Placed
line_items place [] = []
line_items place (code ∷ codes) = at place (line_item code) ∷ line_items (place + 1) codes
