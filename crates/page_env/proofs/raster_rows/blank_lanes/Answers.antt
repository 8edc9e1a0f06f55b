use Rattle.std.proofs.Common.{◌≡◌, ◌==◌, ℕ, List, length, not, take, ap, ◌∙◌, arith}
use Rattle.std.proofs.lemmas.List.Sums.{prefix_len-le-length}
use Rattle.std.proofs.lemmas.Simd.{length-chunk, bitmask_splat, first_set_mask_l}
use lib.Lanes.{chunk}
use Rattle.std.specs.Int.{w8}
use Rattle.page_env.specs.Lanes.{first_set}
use Rattle.page_env.specs.Rasters.{is_black}
use Rattle.page_env.proofs.Blanks.{blank}
use Rattle.page_env.proofs.raster_rows.blank_lanes.Goals as goal

counted : (c : goal.After-first_set) → c.first_set.result ≡ blank (take 16 c.args.bytes.now)
counted c =
    let v : List ℕ = chunk 0 16 c.args.bytes.now in
    let long : length v ≡ 16 = length-chunk 0 16 c.args.bytes.now c.requires in
    c.first_set.ensures ∙ ap (λ m. first_set m 16) (bitmask_splat w8 (λ (a b : ℕ). not (a == b)) v 16 0 long (omega arith))
    ∙ first_set_mask_l is_black v 16 long (omega arith)

pub returns-clause-value : goal.returns-clause-value
returns-clause-value c = counted c

pub returns-clause-short : goal.returns-clause-short
returns-clause-short c =
    let long = length-chunk 0 16 c.args.bytes.now c.requires in
    omega (arith, counted c, prefix_len-le-length (λ x. not (is_black x)) (take 16 c.args.bytes.now), long)
