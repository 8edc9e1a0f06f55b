-- The universal exit, ESC and `%-12345X`, which leaves each language.
use Rattle.std.specs.Prelude.{◌≡◌, ℕ, ◌==◌, ◌&&◌, List, [], ◌∷◌, ◌++◌, Bool, true, false, codes}

-- what stands behind ESC and `%`: these bytes, and no other spelling of the number
abbrev pub exit_field : List ℕ
exit_field = codes "-12345X"

abbrev pub exit_text : List ℕ
exit_text = 27 ∷ 37 ∷ exit_field

-- bytes that begin with it
abbrev pub BeginsExit : List ℕ → Type 0
BeginsExit bytes = (rest : List ℕ) × (bytes ≡ exit_field ++ rest)

abbrev pub begins_with : List ℕ → List ℕ → Bool
begins_with [] bytes = true
begins_with (c ∷ text) [] = false
begins_with (c ∷ text) (b ∷ bytes) = (b == c) && begins_with text bytes
