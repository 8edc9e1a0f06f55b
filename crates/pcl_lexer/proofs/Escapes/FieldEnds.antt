-- How a field ends, as the code finds it, and what readers make of that.
use Rattle.std.proofs.Common.{◌≡◌, ℕ, suc, ◌+◌, ◌≤◌, ◌<◌, cond, List, [], ◌∷◌, length, get_or, drop, Bool, true, false, Option, None, Some}
use Rattle.std.proofs.Common.{refl, sym, ap, subst, ◌∙◌, arith}
use Rattle.std.specs.Prelude.{nat_le, nat_lt}
use Rattle.std.specs.Int.{is_in_range}
use Rattle.std.proofs.lemmas.Bool.{leb-true, le-leb, le-ltb, lt-ltb, and_from, cond-true, cond-false}
use Rattle.std.proofs.lemmas.List.{drop_all, drop-drop}
use Rattle.std.proofs.Math.Seq.{drop-cons}
use Rattle.pcl_items.specs.declared.pcl.command.Group.{Group}
use Rattle.pcl_items.specs.declared.fault.LexCause.TheVariants as causes
use Rattle.pcl_items.specs.Escapes.Value.{Amount}
use Rattle.pcl_lexer.specs.Escapes.Field.{Field, field_at, amount_of}
use Rattle.pcl_lexer.specs.Escapes.FieldEnd.{FieldEnd, Open, BadNumber, Ended, ended_by, with_byte, field_end}
use Rattle.pcl_lexer.specs.Reader.{First, Faulty, by_last_byte, after_field, command_in, by_termination, after_ungrouped_field}
use Rattle.pcl_lexer.specs.Reader.{without_group}
use Rattle.pcl_lexer.specs.Reader as firsts
use Rattle.pcl_lexer.proofs.Escapes.Tables.{both_true, by_test}

-- a byte within the limits, and one outside them
pub in_range : (low high b : ℕ) → low ≤ b → b ≤ high → is_in_range low high b ≡ true
in_range low high b above below = and_from (nat_le low b) (nat_le b high) (le-leb low b above) (le-leb b high below)

pub not_in_range : (low high b : ℕ) → (low ≤ b → b ≤ high → ⊥) → is_in_range low high b ≡ false
not_in_range low high b h =
    by_test (is_in_range low high b)
    (λ e. let t = both_true (nat_le low b) (nat_le b high) e in h (leb-true low b t.0) (leb-true b high t.1))

-- a field of n characters is short enough to be read
pub record IsShort (bytes : List ℕ) (n : ℕ) : Type 0 where
  pub len : n ≡ (field_at bytes).len
  pub short : n ≤ 16

-- .. and has a byte behind it
pub record EndsAt (bytes : List ℕ) (n b : ℕ) : Type 0 where
  pub field : IsShort bytes n
  pub within : n < length bytes
  pub byte : b ≡ get_or bytes n b

pub short_field : (bytes : List ℕ) (n : ℕ) → IsShort bytes n → (field_at bytes).len ≤ 16
short_field bytes n f = subst (λ (m : ℕ). m ≤ 16) f.len f.short

pub nothing_behind : (bytes : List ℕ) (n : ℕ) → IsShort bytes n → length bytes ≤ n → drop (field_at bytes).len bytes ≡ []
nothing_behind bytes n f all = drop_all (field_at bytes).len bytes (subst (λ (m : ℕ). length bytes ≤ m) f.len all)

pub byte_behind : (bytes : List ℕ) (n b : ℕ) → EndsAt bytes n b → drop (field_at bytes).len bytes ≡ b ∷ drop (n + 1) bytes
byte_behind bytes n b f =
    let next : suc n ≡ n + 1 = omega arith in
    ap (λ m. drop m bytes) (sym f.field.len) ∙ drop-cons bytes n b f.within ∙ ap (λ c. c ∷ drop (suc n) bytes) (sym f.byte)
    ∙ ap (λ m. b ∷ drop m bytes) next

-- ---- how it ends

pub too_long : (bytes : List ℕ) (n : ℕ) → n ≡ (field_at bytes).len → 16 < n → BadNumber ≡ field_end bytes
unfolding field_end
too_long bytes n e long = sym (cond-true (nat_lt 16 (field_at bytes).len) _ _ (sym (ap (nat_lt 16) e) ∙ lt-ltb 16 n long))

behind_field : (bytes : List ℕ) (n : ℕ) → IsShort bytes n → field_end bytes ≡ with_byte (field_at bytes) (drop (field_at bytes).len bytes)
unfolding field_end
behind_field bytes n f = cond-false (nat_lt 16 (field_at bytes).len) _ _ (le-ltb 16 (field_at bytes).len (short_field bytes n f))

pub nothing_follows : (bytes : List ℕ) (n : ℕ) → IsShort bytes n → length bytes ≤ n → Open ≡ field_end bytes
nothing_follows bytes n f all = sym (behind_field bytes n f ∙ ap (with_byte (field_at bytes)) (nothing_behind bytes n f all))

-- a byte that follows, behind a field that has this number or none
pub follows : (bytes : List ℕ) (n b : ℕ) (o : Option Amount) → EndsAt bytes n b → o ≡ amount_of (field_at bytes) →
    ended_by o n b ≡ field_end bytes
follows bytes n b o f e =
    sym (behind_field bytes n f.field
    ∙ ap (with_byte (field_at bytes)) (byte_behind bytes n b f)
    ∙ ap (λ m. ended_by (amount_of (field_at bytes)) m b) (sym f.field.len)
    ∙ ap (λ x. ended_by x n b) (sym e))

-- ---- what a reader makes of it, which goes on by the number, the count of characters and the byte

abbrev pub by_end : FieldEnd → (Amount → ℕ → ℕ → First) → First
by_end Open go = firsts.Open
by_end BadNumber go = Faulty causes.BadNumber
by_end (Ended amount len last) go = go amount len last

too_long_or : (t : Bool) (other : FieldEnd) (go : Amount → ℕ → ℕ → First) →
    by_end (cond t BadNumber other) go ≡ cond t (Faulty causes.BadNumber) (by_end other go)
too_long_or true other go = refl
too_long_or false other go = refl

by_field_end : (bytes : List ℕ) (e : FieldEnd) (go : Amount → ℕ → ℕ → First) (other : First) → e ≡ field_end bytes →
    by_end (with_byte (field_at bytes) (drop (field_at bytes).len bytes)) go ≡ other →
    by_end e go ≡ cond (nat_lt 16 (field_at bytes).len) (Faulty causes.BadNumber) other
unfolding field_end
by_field_end bytes e go other is h =
    let long = nat_lt 16 (field_at bytes).len in
    ap (λ x. by_end x go) is ∙ too_long_or long (with_byte (field_at bytes) (drop (field_at bytes).len bytes)) go
    ∙ ap (cond long (Faulty causes.BadNumber)) h

command_behind : (g : Group) (bytes : List ℕ) (f : Field) (rest : List ℕ) → drop f.len bytes ≡ rest →
    by_end (with_byte f rest) (λ amount len last. by_last_byte (Some amount) g len last (drop (len + 1) bytes)) ≡ after_field g f rest
command_behind g bytes f [] e = refl
command_behind g bytes f (last ∷ rest) e = by_number (amount_of f)
  where
    behind : drop (f.len + 1) bytes ≡ rest
    behind = sym (drop-drop 1 f.len bytes) ∙ ap (drop 1) e

    by_number : (o : Option Amount) →
        by_end (ended_by o f.len last) (λ amount len last. by_last_byte (Some amount) g len last (drop (len + 1) bytes))
        ≡ by_last_byte o g f.len last rest
    by_number None = refl
    by_number (Some amount) = ap (by_last_byte (Some amount) g f.len last) behind

pub command_by : (g : Group) (bytes : List ℕ) (e : FieldEnd) → e ≡ field_end bytes →
    by_end e (λ amount len last. by_last_byte (Some amount) g len last (drop (len + 1) bytes)) ≡ command_in g bytes
unfolding command_in
command_by g bytes e is = by_field_end bytes e _ _ is (command_behind g bytes (field_at bytes) (drop (field_at bytes).len bytes) refl)

ungrouped_behind : (introducer : ℕ) (f : Field) (rest : List ℕ) →
    by_end (with_byte f rest) (λ amount len last. by_termination (Some amount) introducer len last)
    ≡ after_ungrouped_field introducer f rest
ungrouped_behind introducer f [] = refl
ungrouped_behind introducer f (last ∷ rest) = by_number (amount_of f)
  where
    by_number : (o : Option Amount) →
        by_end (ended_by o f.len last) (λ amount len last. by_termination (Some amount) introducer len last)
        ≡ by_termination o introducer f.len last
    by_number None = refl
    by_number (Some amount) = refl

pub ungrouped_by : (introducer : ℕ) (bytes : List ℕ) (e : FieldEnd) → e ≡ field_end bytes →
    by_end e (λ amount len last. by_termination (Some amount) introducer len last) ≡ without_group introducer bytes
unfolding without_group
ungrouped_by introducer bytes e is =
    by_field_end bytes e _ _ is (ungrouped_behind introducer (field_at bytes) (drop (field_at bytes).len bytes))
