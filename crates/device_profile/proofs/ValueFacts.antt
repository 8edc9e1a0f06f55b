-- Lemmas on the words behind a key.
use Rattle.std.proofs.Common.{◌≡◌, ◌≢◌, ℕ, List, [], ◌∷◌, false, None, refl}
use Rattle.device_profile.specs.Values.{number_on_line, is_name}

-- words that are not one word are no number
pub no_number : (most : ℕ) (words : List (List ℕ)) → ((word : List ℕ) → words ≢ word ∷ []) → number_on_line most words ≡ None
unfolding number_on_line
no_number most [] other = refl
no_number most (word ∷ []) other = absurd (other word refl)
no_number most (word ∷ more ∷ words) other = refl

-- words that are not one word are no name
pub no_name : (words : List (List ℕ)) → ((word : List ℕ) → words ≢ word ∷ []) → is_name words ≡ false
unfolding is_name
no_name [] other = refl
no_name (word ∷ []) other = absurd (other word refl)
no_name (word ∷ more ∷ words) other = refl
