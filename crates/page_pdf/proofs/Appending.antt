-- Texts that were appended one behind another, the last by a call whose result is the answer.
use Rattle.std.proofs.Common.{◌≡◌, ◌∙◌, ℕ, List, ◌++◌, Result, Ok, Err, ap, sym, append_assoc}
use Rattle.std.specs.Prelude.{OnOk, if◌then◌else◌, is_ok}

three_appended : {T E : Type 0} (answer : Result T E) (old one two new a b c text : List ℕ) →
    one ≡ old ++ a → two ≡ one ++ b → new ≡ (if is_ok answer then two ++ c else two) → text ≡ a ++ b ++ c → OnOk answer (new ≡ old ++ text)
three_appended (Ok x) old one two new a b c text first second third is =
    third
    ∙ ap (λ l. l ++ c) (second ∙ ap (λ l. l ++ b) first ∙ append_assoc old a b)
    ∙ append_assoc old (a ++ b) c
    ∙ ap (λ l. old ++ l) (sym is)
three_appended (Err e) old one two new a b c text first second third is = tt

pub four_appended : {T E : Type 0} (answer : Result T E) (old one two three new a b c d text : List ℕ) →
    one ≡ old ++ a → two ≡ one ++ b → three ≡ two ++ c → new ≡ (if is_ok answer then three ++ d else three) → text ≡ a ++ b ++ c ++ d →
    OnOk answer (new ≡ old ++ text)
four_appended answer old one two three new a b c d text first second third fourth is =
    three_appended answer old two three new (a ++ b) c d text (second ∙ ap (λ l. l ++ b) first ∙ append_assoc old a b) third fourth is
