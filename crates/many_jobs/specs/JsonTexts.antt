-- Names and words as texts of JSON.
use Rattle.std.specs.Prelude.{ℕ, ◌==◌, List, [], ◌∷◌, flat_map, if◌then◌else◌}
use Rattle.std.specs.Str.{is_utf8}
use Rattle.shown_bytes.specs.Shown.{shown}

abbrev pub backslash_doubled : ℕ → List ℕ
backslash_doubled byte = if byte == 92 then 92 ∷ 92 ∷ [] else byte ∷ []

-- A name that is text is that text with each backslash doubled; of any other one each byte that shows nothing, and the
-- backslash, is \x and two hexadecimal digits. So two names have two texts.
abbrev pub name_text : List ℕ → List ℕ
name_text name = if is_utf8 name then flat_map backslash_doubled name else shown name

-- Words of the program are ASCII, and stand as they are.
-- For bytes that are not text the same stands as for such a name.
abbrev pub words_text : List ℕ → List ℕ
words_text words = if is_utf8 words then words else shown words
