-- The ends of a line, the start of a row, and places of two parts.
use Rattle.std.proofs.Common.{arith, ◌≡◌, ℕ, ◌+◌, ◌*◌, ◌^◌, ◌≤◌, ℤ, pos, Bool, true, false, not, ◌&&◌, ◌||◌, cond, Option, Some, None}
use Rattle.std.proofs.Common.{option_map, refl, ap, ◌∙◌}
use Rattle.std.specs.Prelude.{◌+ℤ◌, ◌-ℤ◌, int_lt}
use Rattle.std.specs.Int.{int_min, int_max}
use Rattle.std.proofs.lemmas.Int.{ints}
use Rattle.tick_length.specs.Length.{IsInRange}
use Rattle.page_env.specs.declared.page.Resolution.{Resolution}
use Rattle.page_env.specs.declared.page.Resolution.TheVariants.{Dots75, Dots100, Dots150, Dots200, Dots300, Dots600}
use Rattle.page_env.specs.Numbers.{IsWithin}
use Rattle.page_env.specs.Mark.{pixel_of}
use Rattle.page_env.specs.Places.{is_between}
use Rattle.page_env.proofs.TextJudging.{taken_is}

-- ---- where both ends, with half a width about them, lie between two lengths, each end is a length

neither : (p q : Bool) → not (p || q) ≡ true → (p ≡ false) × (q ≡ false)
neither true q e = absurd cc
neither false true e = absurd cc
neither false false e = (refl, refl)

both_true : (p q : Bool) → (p && q) ≡ true → (p ≡ true) × (q ≡ true)
both_true true q e = (refl, e)
both_true false q e = absurd cc

within : (low high a b : ℤ) (half : ℕ) (turned : Bool) → int_lt b a ≡ turned → IsInRange low → IsInRange high →
    int_lt (cond turned b a -ℤ pos half) low ≡ false → int_lt high (cond turned a b +ℤ pos half) ≡ false → IsInRange a × IsInRange b
within low high a b half true e l h p q =
    (first_of (omega (arith, ints), grind (arith, ints)), first_of (omega (arith, ints), grind (arith, ints)))
within low high a b half false e l h p q =
    (first_of (omega (arith, ints), grind (arith, ints)), first_of (omega (arith, ints), grind (arith, ints)))

pub ends_in_range : (low high a b : ℤ) (half : ℕ) → IsInRange low → IsInRange high →
    (is_between low high (int_min a b -ℤ pos half) && is_between low high (int_max a b +ℤ pos half)) ≡ true → IsInRange a × IsInRange b
unfolding is_between
ends_in_range low high a b half l h e =
    let parts = both_true (is_between low high (int_min a b -ℤ pos half)) (is_between low high (int_max a b +ℤ pos half)) e in
    within low high a b half (int_lt b a) refl l h
    (neither (int_lt (int_min a b -ℤ pos half) low) (int_lt high (int_min a b -ℤ pos half)) parts.0).0
    (neither (int_lt (int_max a b +ℤ pos half) low) (int_lt high (int_max a b +ℤ pos half)) parts.1).1

-- ---- where the first black pixel of a row lies between two lengths, the row begins at a coordinate

pub pixel_small : (resolution : Resolution) → pixel_of resolution ≤ 2 ^ 29
pixel_small Dots75 = omega arith
pixel_small Dots100 = omega arith
pixel_small Dots150 = omega arith
pixel_small Dots200 = omega arith
pixel_small Dots300 = omega arith
pixel_small Dots600 = omega arith

few_pixels : (white : ℕ) (resolution : Resolution) → white ≤ 8 → white * pixel_of resolution ≤ 2 ^ 50
few_pixels white Dots75 few = omega arith
few_pixels white Dots100 few = omega arith
few_pixels white Dots150 few = omega arith
few_pixels white Dots200 few = omega arith
few_pixels white Dots300 few = omega arith
few_pixels white Dots600 few = omega arith

near : (low high left : ℤ) (by : ℕ) → IsInRange low → IsInRange high → by ≤ 2 ^ 50 → int_lt (left +ℤ pos by) low ≡ false →
    int_lt high (left +ℤ pos by) ≡ false → IsWithin (2 ^ 60 + 2 ^ 50) left
near low high left by l h short p q =
    (first_of (omega (arith, ints), grind (arith, ints)), first_of (omega (arith, ints), grind (arith, ints)))

pub start_in_range : (low high left : ℤ) (white : ℕ) (resolution : Resolution) → white ≤ 8 → IsInRange low → IsInRange high →
    is_between low high (left +ℤ pos (white * pixel_of resolution)) ≡ true → IsWithin (2 ^ 60 + 2 ^ 50) left
unfolding is_between
start_in_range low high left white resolution few l h e =
    let by : ℕ = white * pixel_of resolution in
    let parts = neither (int_lt (left +ℤ pos by) low) (int_lt high (left +ℤ pos by)) e in
    near low high left by l h (few_pixels white resolution few) parts.0 parts.1

-- ---- what is made of two parts, each of which may be missing

pub both_taken : {X Y Z : Type 0} (b c : Bool) (make : X → Y → Z) (x taken_x : X) (y taken_y : Y) → Some taken_x ≡ cond b (Some x) None →
    Some taken_y ≡ cond c (Some y) None → Some (make taken_x taken_y) ≡ cond (b && c) (Some (make x y)) None
both_taken true true make x taken_x y taken_y e f =
    ap (λ u. Some (make u taken_y)) (taken_is true x taken_x e) ∙ ap (λ v. Some (make x v)) (taken_is true y taken_y f)
both_taken true false make x taken_x y taken_y e f = absurd cc
both_taken false c make x taken_x y taken_y e f = absurd cc

pub first_missing : {X Z : Type 0} (b c : Bool) (x : X) (z : Z) → None ≡ cond b (Some x) None → None ≡ cond (b && c) (Some z) None
first_missing true c x z e = absurd cc
first_missing false c x z e = refl

pub second_missing : {X Y Z : Type 0} (b c : Bool) (x taken_x : X) (y : Y) (z : Z) → Some taken_x ≡ cond b (Some x) None →
    None ≡ cond c (Some y) None → None ≡ cond (b && c) (Some z) None
second_missing true true x taken_x y z e f = absurd cc
second_missing true false x taken_x y z e f = refl
second_missing false c x taken_x y z e f = absurd cc

-- the first of two that are taken together
pub first_of_both : {X Y : Type 0} (b : Bool) (x : X) (y : Y) (r : Option (X × Y)) → r ≡ cond b (Some (x, y)) None →
    option_map (λ both. both.0) r ≡ cond b (Some x) None
first_of_both true x y r e = ap (option_map (λ both. both.0)) e
first_of_both false x y r e = ap (option_map (λ both. both.0)) e

-- of a box whose right edge lies past a bound
pub right_missing : {X : Type 0} (b c d : Bool) (x : X) → c ≡ false → None ≡ cond ((b && c) && d) (Some x) None
right_missing true true d x e = absurd cc
right_missing true false d x e = refl
right_missing false c d x e = refl

-- of a box whose left edge does
pub left_missing : {X Y : Type 0} (b c d : Bool) (y : Y) (x : X) → None ≡ cond b (Some y) None → None ≡ cond ((b && c) && d) (Some x) None
left_missing true c d y x e = absurd cc
left_missing false c d y x e = refl

-- of a box whose upper or lower edge does
pub down_missing : {X Y : Type 0} (b d : Bool) (y : Y) (x : X) → None ≡ cond d (Some y) None → None ≡ cond (b && d) (Some x) None
down_missing true true y x e = absurd cc
down_missing true false y x e = refl
down_missing false d y x e = refl

-- of a box no edge of which does
pub none_missing : {X Y Z : Type 0} (b c d : Bool) (make : X → Y → Z) (x taken_x : X) (y taken_y : Y) →
    Some taken_x ≡ cond b (Some x) None → c ≡ true → Some taken_y ≡ cond d (Some y) None →
    Some (make taken_x taken_y) ≡ cond ((b && c) && d) (Some (make x y)) None
none_missing true true d make x taken_x y taken_y e is f = both_taken true d make x taken_x y taken_y e f
none_missing true false d make x taken_x y taken_y e is f = absurd cc
none_missing false c d make x taken_x y taken_y e is f = absurd cc
