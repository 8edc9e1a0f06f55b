-- A whole part past the limit is past it with any decimals.
use Rattle.std.proofs.Common.{◌≡◌, ℕ, ◌*◌, ◌<◌, ◌≤◌, List, [], ◌∷◌, drop, Bool, true, false, None, refl, arith}
use Rattle.std.specs.Prelude.{◌==◌, ◌&&◌, nat_le, fold}
use Rattle.std.specs.List.{list_all}
use Rattle.std.proofs.lemmas.Bool.{lt-leb, cond-false}
use Rattle.pcl_items.specs.Escapes.Value.{most}
use Rattle.pcl_lexer.specs.Escapes.Field.{Field, next_digit, decimal, four, ten_thousandths_of, amount_of}

four_least : (n : ℕ) (ds : List ℕ) → n * 10000 ≤ fold next_digit n (four ds)
four_least n [] = omega arith
four_least n (a ∷ []) = omega arith
four_least n (a ∷ b ∷ []) = omega arith
four_least n (a ∷ b ∷ c ∷ []) = omega arith
four_least n (a ∷ b ∷ c ∷ d ∷ ds) = omega arith

pub no_more : (a b : Bool) → a ≡ false → (a && b) ≡ false
no_more true b e = absurd cc
no_more false b e = refl

pub past_whole : (f : Field) → 65535 < decimal f.whole → amount_of f ≡ None
unfolding amount_of
past_whole f h =
    let past : most < ten_thousandths_of f = omega (arith, four_least (decimal f.whole) f.decimals, h) in
    cond-false (nat_le (ten_thousandths_of f) most && list_all (λ d. d == 48) (drop 4 f.decimals)) _ _
    (no_more (nat_le (ten_thousandths_of f) most) (list_all (λ d. d == 48) (drop 4 f.decimals)) (lt-leb (ten_thousandths_of f) most past))
