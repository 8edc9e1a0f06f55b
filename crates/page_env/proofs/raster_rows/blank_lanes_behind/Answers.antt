use Rattle.std.proofs.Common.{◌≡◌, ◌==◌, ◌<◌, ◌^◌, ℕ, List, length, not, take, ap, sym, subst, ◌∙◌, arith}
use Rattle.std.specs.Prelude.{reverse}
use Rattle.std.specs.Int.{w8, w16, leading_zeros}
use Rattle.std.proofs.lemmas.List.{length-reverse}
use Rattle.std.proofs.lemmas.List.Sums.{prefix_len-le-length}
use Rattle.std.proofs.lemmas.Simd.{length-chunk, bitmask_splat}
use lib.Lanes.{chunk}
use Rattle.page_env.specs.Rasters.{is_black}
use Rattle.page_env.proofs.Blanks.{blank, lanes_behind_last, mask_is_short}
use Rattle.page_env.proofs.raster_rows.blank_lanes_behind.Goals as goal

pub lanes_behind-requires : goal.lanes_behind-requires
lanes_behind-requires c =
    let v : List ℕ = chunk 0 16 c.args.bytes.now in
    let long : length v ≡ 16 = length-chunk 0 16 c.args.bytes.now c.requires in
    subst (λ m. m < 2 ^ 16) (sym (bitmask_splat w8 (λ (a b : ℕ). not (a == b)) v 16 0 long (omega arith))) (mask_is_short v long)

counted : (c : goal.After-lanes_behind) → c.lanes_behind.result ≡ blank (reverse (take 16 c.args.bytes.now))
counted c =
    let v : List ℕ = chunk 0 16 c.args.bytes.now in
    let long : length v ≡ 16 = length-chunk 0 16 c.args.bytes.now c.requires in
    c.lanes_behind.ensures ∙ ap (λ m. leading_zeros w16 m) (bitmask_splat w8 (λ (a b : ℕ). not (a == b)) v 16 0 long (omega arith))
    ∙ lanes_behind_last v long

pub returns-clause-value : goal.returns-clause-value
returns-clause-value c = counted c

pub returns-clause-short : goal.returns-clause-short
returns-clause-short c =
    let lanes : List ℕ = take 16 c.args.bytes.now in
    let long : length lanes ≡ 16 = length-chunk 0 16 c.args.bytes.now c.requires in
    omega (arith, counted c, prefix_len-le-length (λ x. not (is_black x)) (reverse lanes), length-reverse lanes, long)
