-- What a loop over elements and their indices has written, after one more.
use Rattle.std.proofs.Common.{◌≡◌, ℕ, suc, ◌+◌, ◌<◌, List, [], ◌∷◌, ◌++◌, length, get_or, take, ap, sym, ◌∙◌, arith}
use Rattle.std.specs.List.{enumerate_from, flat_map}
use Rattle.std.proofs.lemmas.List.{take_more, length-take-le, flat_map_more}

enumerate_more : {X : Type 0} (n : ℕ) (xs : List X) (x : X) →
    enumerate_from n (xs ++ x ∷ []) ≡ enumerate_from n xs ++ (n + length xs, x) ∷ []
enumerate_more n [] x = let e : n ≡ n + 0 = omega arith in ap (λ k. (k, x) ∷ []) e
enumerate_more n (y ∷ ys) x =
    let e : n + 1 + length ys ≡ n + suc (length ys) = omega arith in
    ap (λ rest. (n, y) ∷ rest) (enumerate_more (n + 1) ys x ∙ ap (λ k. enumerate_from (n + 1) ys ++ (k, x) ∷ []) e)

pub entries_more : {X : Type 0} (f : ℕ × X → List ℕ) (bs : List ℕ) (xs : List X) (i : ℕ) (d : X) → i < length xs
    → (bs ++ flat_map f (enumerate_from 0 (take i xs))) ++ f (i, get_or xs i d) ≡ bs ++ flat_map f (enumerate_from 0 (take (i + 1) xs))
entries_more f bs xs i d lt =
    let before = enumerate_from 0 (take i xs) in
    let l : length (take i xs) ≡ i = length-take-le i xs (omega arith) in
    let e : i ≡ 0 + length (take i xs) = omega (arith, l) in
    let one : before ++ (i, get_or xs i d) ∷ [] ≡ enumerate_from 0 (take (i + 1) xs) =
    ap (λ k. before ++ (k, get_or xs i d) ∷ []) e
    ∙ (sym (enumerate_more 0 (take i xs) (get_or xs i d)) ∙ ap (enumerate_from 0) (sym (take_more xs i d lt))) in
    flat_map_more f bs before (i, get_or xs i d) ∙ ap (λ entries. bs ++ flat_map f entries) one
