-- Words that are appended between others.
use Rattle.std.proofs.Common.{◌≡◌, ℕ, List, ◌++◌, Result, OnOk, ap, ◌∙◌, subst, append_assoc}

pub word_is_pushed : {E : Type 0} (result : Result (Unit {0}) E) (new old before word behind last same_word same_last : List ℕ)
    → word ≡ same_word → last ≡ same_last → OnOk result (new ≡ old ++ (before ++ word ++ behind ++ last))
    → OnOk result (new ≡ old ++ (before ++ same_word ++ behind ++ same_last))
word_is_pushed result new old before word behind last same_word same_last is_word is_last pushed =
    subst (λ (bytes : List ℕ). OnOk result (new ≡ old ++ bytes))
    (ap (λ (w : List ℕ). before ++ w ++ behind ++ last) is_word ∙ ap (λ (l : List ℕ). before ++ same_word ++ behind ++ l) is_last)
    pushed

-- what is appended to words behind others
pub joined : (old words all more : List ℕ) → all ≡ old ++ words → all ++ more ≡ old ++ (words ++ more)
joined old words all more is_all = ap (λ (bytes : List ℕ). bytes ++ more) is_all ∙ append_assoc old words more

pub last_is_pushed : {E : Type 0} (result : Result (Unit {0}) E) (new all wanted : List ℕ) → all ≡ wanted → OnOk result (new ≡ all) →
    OnOk result (new ≡ wanted)
last_is_pushed result new all wanted is_all pushed = subst (λ (bytes : List ℕ). OnOk result (new ≡ bytes)) is_all pushed
