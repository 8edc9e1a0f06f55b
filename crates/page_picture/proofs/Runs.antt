-- Runs of black pixels, one pixel after another.
use Rattle.std.proofs.Common.{◌≡◌, ℕ, zero, suc, ◌+◌, ◌-◌, ◌<◌, ◌≤◌, List, [], ◌∷◌, ◌++◌, if◌then◌else◌, ap, sym, ◌∙◌, arith, refl}
use Rattle.std.proofs.lemmas.List.{flat_map_more}
use Rattle.std.specs.List.{flat_map, range_with_len}
use Rattle.page_picture.specs.Rows.{is_black, black_from}

-- from a pixel on, where one is left
pub one_more : (bytes : List ℕ) (pixel all : ℕ) → pixel < all
    → black_from bytes pixel (all - pixel) ≡ (if is_black bytes pixel then 1 + black_from bytes (pixel + 1) (all - (pixel + 1)) else 0)
one_more bytes pixel all h =
    let e : all - pixel ≡ suc (all - (pixel + 1)) = omega (arith, h) in
    ap (λ left. black_from bytes pixel left) e

-- where none is left
pub none_left : (bytes : List ℕ) (pixel all : ℕ) → all ≤ pixel → black_from bytes pixel (all - pixel) ≡ 0
none_left bytes pixel all h =
    let e : all - pixel ≡ 0 = omega (arith, h) in
    ap (λ left. black_from bytes pixel left) e

range_suc : (first count : ℕ) → range_with_len first (suc count) ≡ range_with_len first count ++ (first + count) ∷ []
range_suc first zero = let e : first ≡ first + 0 = omega arith in ap (λ n. n ∷ []) e
range_suc first (suc count) =
    let e : first + 1 + count ≡ first + suc count = omega arith in
    ap (λ rest. first ∷ rest) (range_suc (first + 1) count ∙ ap (λ n. range_with_len (first + 1) count ++ n ∷ []) e)

-- what a loop over pixels has written, after one more
pub runs_more : (f : ℕ → List ℕ) (text : List ℕ) (pixel : ℕ)
    → (text ++ flat_map f (range_with_len 0 pixel)) ++ f pixel ≡ text ++ flat_map f (range_with_len 0 (pixel + 1))
runs_more f text pixel =
    let e : suc pixel ≡ pixel + 1 = omega arith in
    let zero_more : 0 + pixel ≡ pixel = omega arith in
    let more : range_with_len 0 pixel ++ pixel ∷ [] ≡ range_with_len 0 (pixel + 1) =
    ap (λ n. range_with_len 0 pixel ++ n ∷ []) (sym zero_more) ∙ (sym (range_suc 0 pixel) ∙ ap (range_with_len 0) e) in
    flat_map_more f text (range_with_len 0 pixel) pixel ∙ ap (λ pixels. text ++ flat_map f pixels) more
