-- Characters as they stand in a text of XML.
use Rattle.std.specs.Prelude.{ℕ, ◌==◌, ◌&&◌, nat_le, nat_lt, if◌then◌else◌, List, [], ◌∷◌, ◌++◌, flat_map, codes}
use Rattle.std.specs.Prelude.{decimal}

-- a character by its number in Unicode
unfoldable pub reference : ℕ → List ℕ
reference c = codes "&#" ++ decimal c ++ codes ";"

-- as itself in ASCII but for `&`, `<` and `>`, and else by its number
unfoldable pub character_text : ℕ → List ℕ
character_text c =
    if c == 38 then codes "&amp;" else (if c == 60 then codes "&lt;" else (if c == 62 then codes "&gt;" else
    (if nat_lt c 127 then c ∷ [] else reference c)))

-- A byte of a sentence: those of letters behind ASCII as they are, since the text is UTF-8.
-- One that shows nothing is the replacement character, since XML takes no control codes.
abbrev pub byte_text : ℕ → List ℕ
byte_text b =
    if nat_le 128 b then b ∷ [] else (if nat_le 32 b && nat_le b 126 then character_text b else codes "&#65533;")

abbrev pub sentence_text : List ℕ → List ℕ
sentence_text sentence = flat_map byte_text sentence
