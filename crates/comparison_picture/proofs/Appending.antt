-- Texts that were appended one behind another.
use Rattle.std.proofs.Common.{◌≡◌, ◌∙◌, ℕ, List, ◌++◌, Result, Ok, Err, ap, sym, append_assoc}
use Rattle.std.specs.Prelude.{OnOk, if◌then◌else◌, is_ok}

pub two_appended : {T E : Type 0} (answer : Result T E) (old one new a b text : List ℕ) →
    one ≡ old ++ a → new ≡ (if is_ok answer then one ++ b else one) → text ≡ a ++ b → OnOk answer (new ≡ old ++ text)
two_appended (Ok x) old one new a b text first second is =
    second ∙ ap (λ l. l ++ b) first ∙ append_assoc old a b ∙ ap (λ l. old ++ l) (sym is)
two_appended (Err e) old one new a b text first second is = tt

pub three_appended : {T E : Type 0} (answer : Result T E) (old one two new a b c text : List ℕ) →
    one ≡ old ++ a → two ≡ one ++ b → new ≡ (if is_ok answer then two ++ c else two) → text ≡ a ++ b ++ c → OnOk answer (new ≡ old ++ text)
three_appended (Ok x) old one two new a b c text first second third is =
    third
    ∙ ap (λ l. l ++ c) (second ∙ ap (λ l. l ++ b) first ∙ append_assoc old a b)
    ∙ append_assoc old (a ++ b) c
    ∙ ap (λ l. old ++ l) (sym is)
three_appended (Err e) old one two new a b c text first second third is = tt

pub four_appended : {T E : Type 0} (answer : Result T E) (old one two three new a b c d text : List ℕ) →
    one ≡ old ++ a → two ≡ one ++ b → three ≡ two ++ c → new ≡ (if is_ok answer then three ++ d else three) → text ≡ a ++ b ++ c ++ d →
    OnOk answer (new ≡ old ++ text)
four_appended answer old one two three new a b c d text first second third fourth is =
    three_appended answer old two three new (a ++ b) c d text (second ∙ ap (λ l. l ++ b) first ∙ append_assoc old a b) third fourth is

pub five_appended : {T E : Type 0} (answer : Result T E) (old one two three four new a b c d e text : List ℕ) →
    one ≡ old ++ a → two ≡ one ++ b → three ≡ two ++ c → four ≡ three ++ d → new ≡ (if is_ok answer then four ++ e else four) →
    text ≡ a ++ b ++ c ++ d ++ e → OnOk answer (new ≡ old ++ text)
five_appended answer old one two three four new a b c d e text first second third fourth fifth is =
    four_appended answer old two three four new (a ++ b) c d e text
    (second ∙ ap (λ l. l ++ b) first ∙ append_assoc old a b) third fourth fifth is

-- the last by a function of ours
pub four_told : {T E : Type 0} (answer : Result T E) (old one two three new a b c d text : List ℕ) →
    one ≡ old ++ a → two ≡ one ++ b → three ≡ two ++ c → OnOk answer (new ≡ three ++ d) → text ≡ a ++ b ++ c ++ d →
    OnOk answer (new ≡ old ++ text)
four_told (Ok x) old one two three new a b c d text first second third last is =
    last
    ∙ ap (λ l. l ++ d)
    (third ∙ ap (λ l. l ++ c) (second ∙ ap (λ l. l ++ b) first ∙ append_assoc old a b) ∙ append_assoc old (a ++ b) c)
    ∙ append_assoc old (a ++ b ++ c) d
    ∙ ap (λ l. old ++ l) (sym is)
four_told (Err e) old one two three new a b c d text first second third last is = tt
