-- The numbers of columns, after one column more.
use Rattle.std.proofs.Common.{◌≡◌, ℕ, ◌+◌, List, [], ◌∷◌, ◌++◌, refl, sym, ap, subst, add-one, ◌∙◌}
use Rattle.shown_bytes.specs.Decimals.{digit}
use Rattle.test_sheet.specs.MeasuredPage.{column_digits, column_tens, tens_digit}

pub digits_more : (n d : ℕ) (before after : List ℕ) → d ≡ digit (n + 1) → before ≡ column_digits n → after ≡ before ++ d ∷ []
    → after ≡ column_digits (n + 1)
digits_more n d before after is were so =
    so
    ∙ ap (λ (l : List ℕ). l ++ d ∷ []) were
    ∙ ap (λ (last : ℕ). column_digits n ++ last ∷ []) is
    ∙ subst (λ (m : ℕ). column_digits n ++ digit m ∷ [] ≡ column_digits m) (sym (add-one n)) refl

pub tens_more : (n d : ℕ) (before after : List ℕ) → d ≡ tens_digit (n + 1) → before ≡ column_tens n → after ≡ before ++ d ∷ []
    → after ≡ column_tens (n + 1)
tens_more n d before after is were so =
    so
    ∙ ap (λ (l : List ℕ). l ++ d ∷ []) were
    ∙ ap (λ (last : ℕ). column_tens n ++ last ∷ []) is
    ∙ subst (λ (m : ℕ). column_tens n ++ tens_digit m ∷ [] ≡ column_tens m) (sym (add-one n)) refl
