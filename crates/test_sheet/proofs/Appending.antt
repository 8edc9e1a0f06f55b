-- Texts that were appended one behind another, the last by a call whose result is the answer.
use Rattle.std.proofs.Common.{◌≡◌, ◌∙◌, ℕ, List, ◌++◌, Result, Ok, Err, ap, append_assoc}
use Rattle.std.specs.Prelude.{OnOk, if◌then◌else◌, is_ok}

-- what was appended first, before what was appended behind it
pub appended : {T E : Type 0} (answer : Result T E) (old one new a more : List ℕ) → one ≡ old ++ a → OnOk answer (new ≡ one ++ more) →
    OnOk answer (new ≡ old ++ (a ++ more))
appended (Ok x) old one new a more first later = later ∙ ap (λ l. l ++ more) first ∙ append_assoc old a more
appended (Err e) old one new a more first later = tt

-- the last, by std
pub at_last : {T E : Type 0} (answer : Result T E) (old new a : List ℕ) → new ≡ (if is_ok answer then old ++ a else old) →
    OnOk answer (new ≡ old ++ a)
at_last (Ok x) old new a is = is
at_last (Err e) old new a is = tt

-- the same text in other words
pub told_as : {T E : Type 0} (answer : Result T E) (old new a b : List ℕ) → a ≡ b → OnOk answer (new ≡ old ++ a) →
    OnOk answer (new ≡ old ++ b)
told_as (Ok x) old new a b same is = is ∙ ap (λ l. old ++ l) same
told_as (Err e) old new a b same is = tt
