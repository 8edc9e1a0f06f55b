-- The table of where the objects of a document stand, at its end.
use Rattle.std.specs.Prelude.{ℕ, ◌+◌, ◌-◌, ◌/◌, List, [], ◌∷◌, ◌++◌, decimal, drop, flat_map, length, take}
use Rattle.page_pdf.specs.declared.object_parts.ObjectPart.TheVariants as parts
use Rattle.page_pdf.specs.ObjectParts.{object_part}
use Rattle.shown_bytes.specs.Decimals.{digit}

-- a place by ten digits; the table of a document of 10^10 bytes and more is not right
abbrev pub five_digits : ℕ → List ℕ
five_digits n =
    digit (n / 10_000) ∷ digit (n / 1_000) ∷ digit (n / 100) ∷ digit (n / 10) ∷ digit n ∷ []

unfoldable pub place_digits : ℕ → List ℕ
place_digits place = five_digits (place / 100_000) ++ five_digits place

unfoldable pub table_entry : ℕ → List ℕ
table_entry place = place_digits place ++ object_part parts.TableEntry

abbrev pub table_entries : List ℕ → List ℕ
table_entries places = flat_map table_entry places

-- the places of so many objects, of those of the lowest numbers first, behind which the table stands here
unfoldable pub table_places : (count : ℕ) → (first others : List ℕ) → List ℕ
table_places count first others =
    object_part parts.Table ++ decimal count ++ object_part parts.TableFree ++ table_entries first
    ++ table_entries others

unfoldable pub table_end : (count start : ℕ) → List ℕ
table_end count start =
    object_part parts.Trailer ++ decimal count ++ object_part parts.TableStart ++ decimal start
    ++ object_part parts.FileEnd

abbrev pub table_text : (count : ℕ) → (first others : List ℕ) → (start : ℕ) → List ℕ
table_text count first others start = table_places count first others ++ table_end count start

-- of these places, of which the last four are those of the objects 1 to 4, and the others those from 5 on
abbrev pub places_table : (places : List ℕ) → (start : ℕ) → List ℕ
places_table places start =
    let count = length places - 4 in
    table_text (count + 5) (drop count places) (take count places) start
