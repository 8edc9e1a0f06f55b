-- How much more a text has, and what loops over numbers have written.
use Rattle.std.proofs.Common.{◌≡◌, ℕ, zero, suc, ◌+◌, ◌-◌, List, [], ◌∷◌, ◌++◌, length, ap, sym, ◌∙◌, arith}
use Rattle.std.proofs.lemmas.List.{flat_map_more, length-append}
use Rattle.std.specs.List.{flat_map, range_with_len}

-- what stands behind a text is as long as what the text is longer
pub longer : (old more new : List ℕ) → new ≡ old ++ more → length new - length old ≡ length more
longer old more new is =
    let e : length new ≡ length old + length more = ap length is ∙ length-append old more in
    omega (arith, e)

range_suc : (first count : ℕ) → range_with_len first (suc count) ≡ range_with_len first count ++ (first + count) ∷ []
range_suc first zero = let e : first ≡ first + 0 = omega arith in ap (λ n. n ∷ []) e
range_suc first (suc count) =
    let e : first + 1 + count ≡ first + suc count = omega arith in
    ap (λ rest. first ∷ rest) (range_suc (first + 1) count ∙ ap (λ n. range_with_len (first + 1) count ++ n ∷ []) e)

-- what a loop over numbers from 0 on has written, after one more
pub entries_more : (f : ℕ → List ℕ) (text : List ℕ) (n : ℕ)
    → (text ++ flat_map f (range_with_len 0 n)) ++ f n ≡ text ++ flat_map f (range_with_len 0 (n + 1))
entries_more f text n =
    let e : suc n ≡ n + 1 = omega arith in
    let zero_more : 0 + n ≡ n = omega arith in
    let more : range_with_len 0 n ++ n ∷ [] ≡ range_with_len 0 (n + 1) =
    ap (λ m. range_with_len 0 n ++ m ∷ []) (sym zero_more) ∙ (sym (range_suc 0 n) ∙ ap (range_with_len 0) e) in
    flat_map_more f text (range_with_len 0 n) n ∙ ap (λ ns. text ++ flat_map f ns) more
