-- The word at a place among others.
use Rattle.std.proofs.Common.{◌≡◌, ℕ, List, map, slice_get, option_map, sym}
use Rattle.std.proofs.lemmas.Option.{slice_get-map}

-- what stands at a place of what was mapped
pub word_at_is : {A B : Type 0} (f : A → B) (xs : List A) (place : ℕ) → option_map f (slice_get xs place) ≡ slice_get (map f xs) place
word_at_is f xs place = sym (slice_get-map f xs place)
