-- What was appended to what was appended.
use Rattle.std.proofs.Common.{◌≡◌, ◌∙◌, ◌++◌, ℕ, List, ap, append_assoc}

pub behind : (old one two a b : List ℕ) → one ≡ old ++ a → two ≡ one ++ b → two ≡ old ++ (a ++ b)
behind old one two a b first second = second ∙ ap (λ l. l ++ b) first ∙ append_assoc old a b
