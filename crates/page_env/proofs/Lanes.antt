-- Text that is looked at in lanes.
use Rattle.std.proofs.Common.{◌≡◌, ℕ, zero, suc, ◌+◌, ◌-◌, ◌*◌, ◌/◌, ◌≤◌, ◌<◌, ◌%◌, ◌^◌, ◌==◌, Bool, true, false, not, ◌&&◌, cond, List, []}
use Rattle.std.proofs.Common.{◌∷◌, ◌++◌, map, length, take, drop, bit_and, get_or, Fits, w8, refl, sym, ap, ap₂, subst, ◌∙◌, arith}
use Rattle.std.specs.Prelude.{nat_lt, count_ones}
use Rattle.std.specs.List.{prefix_len}
use Rattle.std.proofs.Math.Arith.{mod-mul}
use Rattle.std.proofs.Math.Nat.{pow-zero, pow-suc, mod-one, zero-mod, one-le-pow}
use Rattle.std.proofs.Math.Seq.{take-add}
use Rattle.std.proofs.lemmas.Nat.{ones_le_self}
use Rattle.std.proofs.lemmas.Bool.Decides.{nat_tests}
use Rattle.std.proofs.lemmas.List.{length-drop, length-map, length-take-le, take-take, take_rest}
use Rattle.std.proofs.lemmas.Simd.{map-map, mask_l-mod, first_set_mask_l, ones-mask_l_cons}
use lib.Lanes.{mask_l, top}
use Rattle.device_profile.specs.declared.font.CodeRange.{CodeRange}
use Rattle.device_profile.specs.Faces.{is_text_of}
use Rattle.page_env.specs.Lanes.{first_set}
use Rattle.page_env.specs.TextLines.{CanGoIn, inked_count}
use Rattle.page_env.proofs.TextGoes.{space_or_in}

-- a lane where two tests are met
pub tops : (a b : Bool) → top 7 (bit_and (cond a 255 0) (cond b 255 0)) ≡ (a && b)
tops true true = refl
tops true false = refl
tops false true = refl
tops false false = refl

same_at_each : (f g : ℕ → Bool) → ((x : ℕ) → f x ≡ g x) → (xs : List ℕ) → map f xs ≡ map g xs
same_at_each f g is [] = refl
same_at_each f g is (x ∷ xs) = ap₂ (λ b bs. b ∷ bs) (is x) (same_at_each f g is xs)

-- how many lanes come before the first at which a test is met
pub before_first : (p : ℕ → Bool) (f : ℕ → ℕ) → ((x : ℕ) → top 7 (f x) ≡ p x) → (v z : List ℕ) → length v ≡ 32 → z ≡ map f v → (r : ℕ) →
    r ≡ first_set (mask_l (map (top 7) z) % 2 ^ 64) 32 → r ≡ prefix_len (λ x. not (p x)) v
before_first p f is v z long lanes r found =
    let set : map (top 7) z ≡ map p v = ap (map (top 7)) lanes ∙ map-map (top 7) f v ∙ same_at_each (λ x. top 7 (f x)) p is v in
    let mask : mask_l (map (top 7) z) % 2 ^ 64 ≡ mask_l (map p v) =
    ap (λ l. mask_l l % 2 ^ 64) set ∙ mask_l-mod (map p v) 64 (omega (arith, length-map v p, long)) in
    found ∙ ap (λ m. first_set m 32) mask ∙ first_set_mask_l p v 32 long (omega arith)

-- how far a byte is from the first of a range, where those before it come last
abbrev pub from_first : CodeRange → ℕ → ℕ
from_first range x = (x + (2 ^ 8 - range.first)) % 2 ^ 8

-- a byte outside of a range that is no space
abbrev pub is_other : CodeRange → ℕ → Bool
is_other range x = nat_lt (range.last - range.first) (from_first range x) && not (x == 32)

no_other_is_text : (range : CodeRange) (others : List CodeRange) (x : ℕ) → 32 ≤ range.first → range.first ≤ range.last →
    range.last < 2 ^ 8 → x < 2 ^ 8 → not (is_other range x) ≡ true → is_text_of (range ∷ others) x ≡ true
no_other_is_text range others x least some fits small e = space_or_in range others x least (grind (arith, nat_tests, e, some, fits, small))

module _ (range : CodeRange) (others : List CodeRange) (least : 32 ≤ range.first) (some : range.first ≤ range.last)
    (fits : range.last < 2 ^ 8) where
  pub can_go_before : (n : ℕ) (bytes : List ℕ) → ((k : ℕ) → Fits w8 (get_or bytes k 0)) →
      CanGoIn (range ∷ others) (take (prefix_len (λ x. not (is_other range x)) (take n bytes)) bytes)
  can_go_before zero bytes small = tt
  can_go_before (suc n) [] small = tt
  can_go_before (suc n) (x ∷ bytes) small = by (not (is_other range x)) refl (can_go_before n bytes (λ k. small (suc k)))
    where
      by : (b : Bool) → not (is_other range x) ≡ b →
          CanGoIn (range ∷ others) (take (prefix_len (λ x. not (is_other range x)) (take n bytes)) bytes) →
          CanGoIn (range ∷ others) (take (cond b (1 + prefix_len (λ x. not (is_other range x)) (take n bytes)) 0) (x ∷ bytes))
      by true e h =
          let k = prefix_len (λ x. not (is_other range x)) (take n bytes) in
          let next : suc k ≡ 1 + k = omega arith in
          subst (λ (m : ℕ). CanGoIn (range ∷ others) (take m (x ∷ bytes))) next
          (no_other_is_text range others x least some fits (small 0).fits e, h)
      by false e h = tt

-- ---- bytes that are no spaces

abbrev pub is_inked : ℕ → Bool
is_inked x = not (x == 32)

-- the lowest bits of a mask are of the first lanes
lowest : (b : Bool) (n : ℕ) → ((cond b 1 0 + 2 * n) % 2 ≡ cond b 1 0) × ((cond b 1 0 + 2 * n) / 2 ≡ n)
lowest true n = omega arith
lowest false n = omega arith

mask_below : (p : ℕ → Bool) (xs : List ℕ) (k : ℕ) → mask_l (map p xs) % 2 ^ k ≡ mask_l (map p (take k xs))
mask_below p xs zero = ap (λ n. mask_l (map p xs) % n) (pow-zero 2) ∙ mod-one (mask_l (map p xs))
mask_below p [] (suc k) = zero-mod (2 ^ suc k)
mask_below p (x ∷ xs) (suc k) =
    let n = mask_l (map p xs) in
    let parts = lowest (p x) n in
    ap (λ m. (cond (p x) 1 0 + 2 * n) % m) (pow-suc 2 k)
    ∙ mod-mul (cond (p x) 1 0 + 2 * n) {m = 2 ^ k} {c = 2} (one-le-pow k 2 (omega arith)) (omega arith)
    ∙ (λ i. parts.1 i % 2 ^ k * 2 + parts.0 i)
    ∙ ap (λ m. m * 2 + cond (p x) 1 0) (mask_below p xs k)
    ∙ omega arith

ones_are_inked : (xs : List ℕ) → count_ones (mask_l (map is_inked xs)) ≡ inked_count xs
ones_are_inked [] = omega (arith, ones_le_self 0)
ones_are_inked (x ∷ xs) =
    ones-mask_l_cons (is_inked x) (map is_inked xs) ∙ (λ i. turned (x == 32) i + ones_are_inked xs i)
  where
    turned : (b : Bool) → ◌≡◌ {A = ℕ} (cond (not b) 1 0) (cond b 0 1)
    turned true = refl
    turned false = refl

-- a lane where a byte is compared with a space
top_inked : (b : Bool) → top 7 (cond b 255 0) ≡ b
top_inked true = refl
top_inked false = refl

-- so many of the lowest bits of the mask of bytes that are no spaces are set
pub inked_below : (v z : List ℕ) → length v ≡ 32 → z ≡ map (λ x. cond (is_inked x) 255 0) v → (k : ℕ) →
    count_ones (mask_l (map (top 7) z) % 2 ^ 64 % 2 ^ k) ≡ inked_count (take k v)
inked_below v z long lanes k =
    let set : map (top 7) z ≡ map is_inked v =
    ap (map (top 7)) lanes ∙ map-map (top 7) (λ x. cond (is_inked x) 255 0) v
    ∙ same_at_each (λ x. top 7 (cond (is_inked x) 255 0)) is_inked (λ x. top_inked (is_inked x)) v in
    let mask : mask_l (map (top 7) z) % 2 ^ 64 ≡ mask_l (map is_inked v) =
    ap (λ l. mask_l l % 2 ^ 64) set ∙ mask_l-mod (map is_inked v) 64 (omega (arith, length-map v is_inked, long)) in
    ap (λ m. count_ones (m % 2 ^ k)) mask ∙ ap count_ones (mask_below is_inked v k) ∙ ones_are_inked (take k v)

-- no more than all of them are
pub inked_small : (codes : List ℕ) → inked_count codes ≤ length codes
inked_small [] = omega arith
inked_small (code ∷ codes) = by (code == 32) (inked_small codes)
  where
    by : (b : Bool) → inked_count codes ≤ length codes → cond b 0 1 + inked_count codes ≤ suc (length codes)
    by true h = omega (arith, h)
    by false h = omega (arith, h)

inked_append : (xs ys : List ℕ) → inked_count (xs ++ ys) ≡ inked_count xs + inked_count ys
inked_append [] ys = omega arith
inked_append (x ∷ xs) ys = omega (arith, inked_append xs ys)

-- behind so many bytes further ones are counted
pub inked_further : (n m : ℕ) (codes : List ℕ) →
    inked_count (take (n + m) codes) ≡ inked_count (take n codes) + inked_count (take m (drop n codes))
inked_further n m codes = ap inked_count (take-add n m codes) ∙ inked_append (take n codes) (take m (drop n codes))

-- so many of some bytes and of the rest behind them
pub inked_more : (n m : ℕ) (codes : List ℕ) (a b : ℕ) → n ≤ length codes → m ≤ length (take (length codes - n) (drop n codes)) →
    a ≡ inked_count (take n codes) → b ≡ inked_count (take m (take (length codes - n) (drop n codes))) →
    (a + b ≡ inked_count (take (n + m) codes)) × (a + b ≤ length codes)
inked_more n m codes a b short more first second =
    let rest : take (length codes - n) (drop n codes) ≡ drop n codes = take_rest codes n in
    let all : a + b ≡ inked_count (take (n + m) codes) =
    (λ i. first i + (second ∙ ap (λ l. inked_count (take m l)) rest) i) ∙ sym (inked_further n m codes) in
    let fits : n + m ≤ length codes = omega (arith, short, more, ap length rest, length-drop n codes) in (
      all,
      omega (arith, all, inked_small (take (n + m) codes), length-take-le (n + m) codes fits, fits),
    )

-- the first of the first are the first
pub same_first : (count text most : ℕ) (codes : List ℕ) (n : ℕ) → count ≤ text → most ≤ length codes →
    text ≤ length (take most codes) → n ≡ inked_count (take text (take most codes)) → length (take count codes) ≡ text →
    n ≡ inked_count (take count codes)
same_first count text most codes n less few short is all =
    let long = length-take-le most codes few in
    let same : text ≡ count = omega (arith, length-take-le count codes (omega (arith, less, short, long, few)), all) in
    is ∙ ap inked_count (take-take text most codes (omega (arith, short, long)))
    ∙ ap (λ k. inked_count (take k codes)) same
