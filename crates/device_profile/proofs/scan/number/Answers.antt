use Rattle.std.proofs.Common.{◌≤◌, ◌<◌, ◌^◌, rules, arith, lit<}
use Rattle.std.proofs.Math.Nat.{pow-le-pow_right}
use Rattle.device_profile.proofs.scan.number.Goals as goal

small : (i : _) → i < 16 → 10 ^ i ≤ 10 ^ 15
small i below = let le : i ≤ 15 = omega arith in pow-le-pow_right (lit< tt) le

pub overflow_mul-value : goal.overflow_mul-value
overflow_mul-value c =
    let bound : 10 ^ c.loop-byte.byte-index ≤ 10 ^ 15 = small c.loop-byte.byte-index (search rules) in search (rules, bound)

pub overflow_add-value : goal.overflow_add-value
overflow_add-value c =
    let bound : 10 ^ c.loop-byte.byte-index ≤ 10 ^ 15 = small c.loop-byte.byte-index (search rules) in search (rules, bound)
