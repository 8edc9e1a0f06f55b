use Rattle.std.proofs.Common.{◌≡◌, ◌==◌, ◌+◌, ◌-◌, ◌≤◌, ◌%◌, ◌^◌, ℕ, Bool, List, length, map, take, not, cond, bit_and, replicate, ◌∷◌}
use Rattle.std.proofs.Common.{rules, ◌<◌, ◌∙◌, ap, sym, subst, arith}
use Rattle.std.specs.Prelude.{nat_lt}
use Rattle.std.specs.List.{prefix_len}
use Rattle.std.proofs.lemmas.List.{take-take}
use Rattle.std.proofs.lemmas.List.Sums.{prefix_len-le-length}
use Rattle.std.proofs.lemmas.Simd.{length-chunk, splat_is_map, zip2_splat, zip2_of_maps}
use lib.Lanes.{chunk, mask_l, top, zip2}
use Rattle.device_profile.specs.declared.font.CodeRange.{CodeRange}
use Rattle.page_env.specs.Lanes.{first_set}
use Rattle.page_env.specs.TextLines.{CanGoIn, inked_count}
use Rattle.page_env.proofs.Lanes.{tops, before_first, from_first, is_other, can_go_before, inked_below}
use Rattle.page_env.proofs.text_lines.text_of_range.Goals as goal

-- all bits of a lane, where a test is met
abbrev set : Bool → ℕ
set b = cond b 255 0

-- the lanes of a byte outside of a range that is no space
abbrev others_of : CodeRange → List ℕ → List ℕ
others_of range v =
    zip2 bit_and
    (zip2 (λ (a b : ℕ). set (nat_lt a b)) (replicate 32 (range.last - range.first))
    (zip2 (λ (a b : ℕ). (a + (2 ^ 8 - b)) % 2 ^ 8) v (replicate 32 range.first)))
    (zip2 (λ (a b : ℕ). set (not (a == b))) v (replicate 32 32))

module _ (range : CodeRange) (bytes : List ℕ) (room : 32 ≤ length bytes) (r : ℕ)
    (found : r ≡ first_set (mask_l (map (top 7) (others_of range (chunk 0 32 bytes))) % 2 ^ 64) 32) where
  counted : r ≡ prefix_len (λ x. not (is_other range x)) (take 32 bytes)
  counted =
      let v : List ℕ = chunk 0 32 bytes in
      let long : length v ≡ 32 = length-chunk 0 32 bytes room in
      let span = range.last - range.first in
      let behind = zip2_splat (λ (a b : ℕ). (a + (2 ^ 8 - b)) % 2 ^ 8) v 32 range.first long in
      let no_space = zip2_splat (λ (a b : ℕ). set (not (a == b))) v 32 32 long in
      let outside =
      zip2_of_maps (λ (a b : ℕ). set (nat_lt a b)) (λ (x : ℕ). span) (λ (x : ℕ). from_first range x) v
      (splat_is_map v 32 span long) behind in
      let other =
      zip2_of_maps bit_and (λ (x : ℕ). set (nat_lt span (from_first range x))) (λ x. set (not (x == 32))) v outside no_space in
      before_first (is_other range) (λ x. bit_and (set (nat_lt span (from_first range x))) (set (not (x == 32))))
      (λ x. tops (nat_lt span (from_first range x)) (not (x == 32))) v _ long other r found

  few : r ≤ 32
  few =
      omega (
        arith,
        counted,
        prefix_len-le-length (λ x. not (is_other range x)) (take 32 bytes),
        length-chunk 0 32 bytes room,
      )

pub ones_below-inked-requires : goal.ones_below-inked-requires
ones_below-inked-requires c = few c.args.range c.args.bytes.now c.requires.room c.first_set-all.result c.first_set-all.ensures

pub returns-clause-short : goal.returns-clause-short
returns-clause-short c = few c.args.range c.args.bytes.now c.requires.room c.first_set-all.result c.first_set-all.ensures

pub returns-clause-known : goal.returns-clause-known
returns-clause-known c =
    let n = counted c.args.range c.args.bytes.now c.requires.room c.first_set-all.result c.first_set-all.ensures in
    let fits : c.args.range.last < 2 ^ 8 = first_of (search rules, omega arith, grind arith) in
    λ others. subst (λ (n : ℕ). CanGoIn (c.args.range ∷ others) (take n c.args.bytes.now)) (sym n)
    (can_go_before c.args.range others c.requires.text c.requires.some fits 32 c.args.bytes.now c.type_inv.bytes)

pub returns-clause-inked : goal.returns-clause-inked
returns-clause-inked c =
    let v : List ℕ = chunk 0 32 c.args.bytes.now in
    let long : length v ≡ 32 = length-chunk 0 32 c.args.bytes.now c.requires.room in
    let no_space = zip2_splat (λ (a b : ℕ). set (not (a == b))) v 32 32 long in
    let n = c.first_set-all.result in
    let most : n ≤ 32 = few c.args.range c.args.bytes.now c.requires.room n c.first_set-all.ensures in
    c.ones_below-inked.ensures ∙ inked_below v _ long no_space n ∙ ap inked_count (take-take n 32 c.args.bytes.now most)
