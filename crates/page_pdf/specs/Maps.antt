-- Which characters the codes of a symbol set are, as a reader is told it: all 256, by their numbers in Unicode.
use Rattle.std.specs.Prelude.{ℕ, ◌/◌, ◌%◌, List, [], ◌∷◌, ◌++◌, unwrap_or, flat_map, Some}
use Rattle.std.specs.List.{range_with_len}
use Rattle.page_picture.specs.declared.characters.Repertoire.{Repertoire}
use Rattle.page_picture.specs.Characters.{character_in}
use Rattle.page_pdf.specs.declared.object_parts.ObjectPart.TheVariants as parts
use Rattle.page_pdf.specs.Figures.{code_digits}
use Rattle.page_pdf.specs.ObjectParts.{object_part}

-- what a code stands for, or that it is not known
abbrev pub character_number : Repertoire → ℕ → ℕ
character_number repertoire code = unwrap_or (character_in (Some repertoire) code) 65533

-- by four digits
unfoldable pub character_digits : ℕ → List ℕ
character_digits n = 60 ∷ code_digits (n / 256) ++ code_digits (n % 256) ++ 62 ∷ []

unfoldable pub map_entry : Repertoire → ℕ → List ℕ
map_entry repertoire code = character_digits (character_number repertoire code)

-- of so many codes, from 0 on
unfoldable pub entries_to : Repertoire → (count : ℕ) → List ℕ
entries_to repertoire count = flat_map (map_entry repertoire) (range_with_len 0 count)

unfoldable pub map_object : Repertoire → List ℕ
map_object repertoire = object_part parts.MapStart ++ entries_to repertoire 256 ++ object_part parts.MapEnd
