-- The parts of a text between bytes of one kind.
use Rattle.std.proofs.Common.{◌≡◌, ℕ, suc, ◌+◌, ◌-◌, ◌<◌, ◌==◌, false, List, [], ◌∷◌, ◌++◌, length, take, drop, get_or, refl, sym, ap, ◌∙◌}
use Rattle.std.proofs.Common.{subst, arith, add-one, take-append-drop}
use Rattle.std.specs.List.{All, slice_split}
use Rattle.std.proofs.Math.Seq.{drop-cons}
use Rattle.std.proofs.lemmas.Bool.{eq-eqb}
use Rattle.std.proofs.lemmas.List.{take_all, take_rest}
use Rattle.std.proofs.lemmas.List.Splits.{slice_split_at, slice_split_none}

-- a text without such a byte is one part
pub parts-whole : (text : List ℕ) (byte n : ℕ) → length text ≡ n → All (λ b. (b == byte) ≡ false) (take n text) →
    slice_split (λ b. b == byte) text ≡ text ∷ []
parts-whole text byte n all none =
    let whole : take n text ≡ text = take_all n text (omega arith) in
    slice_split_none (λ b. b == byte) text (subst (λ (t : List ℕ). All (λ b. (b == byte) ≡ false) t) whole none)

-- such a byte ends the first part
pub parts-cut : (text : List ℕ) (byte n : ℕ) → n < length text → All (λ b. (b == byte) ≡ false) (take n text) → get_or text n 0 ≡ byte
    → slice_split (λ b. b == byte) text ≡ take n text ∷ slice_split (λ b. b == byte) (take (length text - (n + 1)) (drop (n + 1) text))
parts-cut text byte n within none here =
    let rest : List ℕ = drop (n + 1) text in
    let whole : text ≡ take n text ++ byte ∷ rest =
    sym (take-append-drop n text)
    ∙ ap (λ l. take n text ++ l)
    (drop-cons text n 0 within ∙ ap (λ b. b ∷ drop (suc n) text) here ∙ ap (λ m. byte ∷ drop m text) (sym (add-one n))) in
    ap (λ t. slice_split (λ b. b == byte) t) whole
    ∙ (slice_split_at (λ b. b == byte) (take n text) byte rest none (eq-eqb byte byte refl)
    ∙ ap (λ l. take n text ∷ slice_split (λ b. b == byte) l) (sym (take_rest text (n + 1))))
