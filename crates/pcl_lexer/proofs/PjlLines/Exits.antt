-- Bytes that begin with those of the universal exit.
use Rattle.std.proofs.Common.{◌≡◌, ℕ, zero, suc, ◌<◌, ◌≤◌, List, [], ◌∷◌, ◌++◌, length, take, drop, Bool, true, false, refl, sym, ap, ◌∙◌}
use Rattle.std.proofs.Common.{arith}
use Rattle.std.specs.Prelude.{◌==◌, ◌&&◌}
use Rattle.std.proofs.lemmas.Bool.{eqb-true, eq-eqb, and_from, cond_both}
use Rattle.std.proofs.Math.Seq.{drop-append_seam}
use Rattle.pcl_items.specs.Escapes.Value.{Amount}
use Rattle.pcl_items.specs.Escapes.ValueField.{IsField}
use Rattle.pcl_items.specs.PjlLines.Exit.{exit_field, BeginsExit, begins_with}
use Rattle.pcl_lexer.specs.Escapes.Field.{field_at}
use Rattle.pcl_lexer.specs.Frames.Reader.{language_in}
use Rattle.pcl_lexer.specs.Reader.{First, Open, exit_or, without_group}
use Rattle.pcl_lexer.proofs.Escapes.Fields.{ends_at_letter, field_read}
use Rattle.pcl_lexer.proofs.Escapes.Tables.{both_true, by_test}

pub begins_itself : (text rest : List ℕ) → begins_with text (text ++ rest) ≡ true
begins_itself [] rest = refl
begins_itself (c ∷ text) rest = and_from (c == c) (begins_with text (text ++ rest)) (eq-eqb c c refl) (begins_itself text rest)

begins_so : (text bytes : List ℕ) → begins_with text bytes ≡ true → bytes ≡ text ++ drop (length text) bytes
begins_so [] bytes e = refl
begins_so (c ∷ text) [] e = absurd cc
begins_so (c ∷ text) (b ∷ bytes) e =
    let t = both_true (b == c) (begins_with text bytes) e in
    ap (λ n. n ∷ bytes) (eqb-true b c t.0) ∙ ap (λ l. c ∷ l) (begins_so text bytes t.1)

pub exit_there : (bytes : List ℕ) → begins_with exit_field bytes ≡ true → BeginsExit bytes
exit_there bytes e = (drop (length exit_field) bytes, begins_so exit_field bytes e)

pub exit_read : (bytes : List ℕ) → BeginsExit bytes → begins_with exit_field bytes ≡ true
exit_read bytes h = ap (begins_with exit_field) h.1 ∙ begins_itself exit_field h.0

pub no_exit : (bytes : List ℕ) → (BeginsExit bytes → ⊥) → begins_with exit_field bytes ≡ false
no_exit bytes h = by_test (begins_with exit_field bytes) (λ e. h (exit_there bytes e))

pub not_exit : (bytes : List ℕ) → begins_with exit_field bytes ≡ false → BeginsExit bytes → ⊥
not_exit bytes e h = let both : true ≡ false = sym (exit_read bytes h) ∙ e in absurd cc

-- where something other than it decides nothing
pub exit_open : (f : First) (bytes : List ℕ) → exit_or f bytes ≡ Open → f ≡ Open
exit_open f bytes = cond_both (begins_with exit_field bytes) _ _ (λ (g : First). g ≡ Open → f ≡ Open) (λ _ e. absurd cc) (λ _ e. e)

-- a field and another letter are none
field_of_exit : (rest : List ℕ) → (field_at (exit_field ++ rest)).len ≡ 6
unfolding field_at
field_of_exit rest = refl

pub no_exit_field : (text : List ℕ) (a : Amount) (c : ℕ) (rest : List ℕ) → IsField text a → 64 ≤ c → (c ≡ 88 → ⊥) →
    BeginsExit (text ++ c ∷ rest) → ⊥
no_exit_field text a c rest f low h b =
    let r = field_read text a (c ∷ rest) f (ends_at_letter a.sign f.whole f.fraction c rest (omega (arith, low))) in
    let size : length text ≡ 6 = sym r.len ∙ ap (λ l. (field_at l).len) b.1 ∙ field_of_exit b.0 in
    let behind : c ∷ rest ≡ 88 ∷ b.0 =
    sym (drop-append_seam text (c ∷ rest)) ∙ ap (λ n. drop n (text ++ c ∷ rest)) size ∙ ap (drop 6) b.1 in
    let same : c ≡ 88 = cc in
    h same

-- ---- more bytes

pub begins_more : (text bytes more : List ℕ) → begins_with text bytes ≡ true → begins_with text (bytes ++ more) ≡ true
begins_more [] bytes more e = refl
begins_more (c ∷ text) [] more e = absurd cc
begins_more (c ∷ text) (b ∷ bytes) more e =
    let t = both_true (b == c) (begins_with text bytes) e in
    and_from (b == c) (begins_with text (bytes ++ more)) t.0 (begins_more text bytes more t.1)

-- bytes that go on to the text are a front of it
record IsFront (text bytes : List ℕ) : Type 0 where
  short : length bytes < length text
  is : bytes ≡ take (length bytes) text

second_false : (a b : Bool) → a ≡ true → (a && b) ≡ false → b ≡ false
second_false true b e h = h
second_false false b e h = absurd cc

front_of : (text bytes more : List ℕ) → begins_with text bytes ≡ false → begins_with text (bytes ++ more) ≡ true → IsFront text bytes
front_of [] bytes more e h = absurd cc
front_of (c ∷ text) [] more e h = record { short = omega arith; is = refl }
front_of (c ∷ text) (b ∷ bytes) more e h =
    let t = both_true (b == c) (begins_with text (bytes ++ more)) h in
    let f = front_of text bytes more (second_false (b == c) (begins_with text bytes) t.0 e) t.1 in
    record { short = omega (arith, f.short); is = ap (λ n. n ∷ bytes) (eqb-true b c t.0) ∙ ap (λ l. c ∷ l) f.is }

-- a byte that is not in the text makes none of it
abbrev Differs : ℕ → List ℕ → Type 0
Differs b [] = Unit {0}
Differs b (c ∷ text) = ((b == c) ≡ false) × Differs b text

one_more : (b : ℕ) (text bytes : List ℕ) → Differs b text → begins_with text (bytes ++ b ∷ []) ≡ true → begins_with text bytes ≡ true
one_more b [] bytes d e = refl
one_more b (c ∷ text) [] d e =
    let t = both_true (b == c) (begins_with text []) e in
    let both : true ≡ false = sym t.0 ∙ d.0 in
    absurd cc
one_more b (c ∷ text) (x ∷ bytes) d e =
    let t = both_true (x == c) (begins_with text (bytes ++ b ∷ [])) e in
    and_from (x == c) (begins_with text bytes) t.0 (one_more b text bytes d.1 t.1)

pub no_more_exit : (bytes : List ℕ) → begins_with exit_field bytes ≡ false → begins_with exit_field (bytes ++ 95 ∷ []) ≡ true → ⊥
no_more_exit bytes e h =
    let both : true ≡ false = sym (one_more 95 exit_field bytes (refl, (refl, (refl, (refl, (refl, (refl, (refl, tt))))))) h) ∙ e in
    absurd cc

-- such a front decides nothing
front_waits : (n : ℕ) → n < 7 → without_group 37 (take n exit_field) ≡ Open
unfolding without_group field_at
front_waits zero h = refl
front_waits (suc zero) h = refl
front_waits (suc (suc zero)) h = refl
front_waits (suc (suc (suc zero))) h = refl
front_waits (suc (suc (suc (suc zero)))) h = refl
front_waits (suc (suc (suc (suc (suc zero))))) h = refl
front_waits (suc (suc (suc (suc (suc (suc zero)))))) h = refl
front_waits (suc (suc (suc (suc (suc (suc (suc n))))))) h = absurd (omega (arith, h))

frame_waits : (n : ℕ) → n < 7 → language_in (take n exit_field) ≡ Open
unfolding language_in field_at
frame_waits zero h = refl
frame_waits (suc zero) h = refl
frame_waits (suc (suc zero)) h = refl
frame_waits (suc (suc (suc zero))) h = refl
frame_waits (suc (suc (suc (suc zero)))) h = refl
frame_waits (suc (suc (suc (suc (suc zero))))) h = refl
frame_waits (suc (suc (suc (suc (suc (suc zero)))))) h = refl
frame_waits (suc (suc (suc (suc (suc (suc (suc n))))))) h = absurd (omega (arith, h))

pub exit_waits : (bytes more : List ℕ) → begins_with exit_field bytes ≡ false → begins_with exit_field (bytes ++ more) ≡ true →
    without_group 37 bytes ≡ Open
exit_waits bytes more e h =
    let f = front_of exit_field bytes more e h in ap (without_group 37) f.is ∙ front_waits (length bytes) (omega (arith, f.short))

pub frame_exit_waits : (bytes more : List ℕ) → begins_with exit_field bytes ≡ false → begins_with exit_field (bytes ++ more) ≡ true →
    language_in bytes ≡ Open
frame_exit_waits bytes more e h =
    let f = front_of exit_field bytes more e h in ap language_in f.is ∙ frame_waits (length bytes) (omega (arith, f.short))

-- a test that says so
pub tested : (text : List ℕ) (r : Bool) (bytes : List ℕ) → (r ≡ true → bytes ≡ text ++ drop (length text) bytes) →
    ((rest : List ℕ) → bytes ≡ text ++ rest → r ≡ true) → r ≡ begins_with text bytes
tested text true bytes f g = sym (ap (begins_with text) (f refl) ∙ begins_itself text (drop (length text) bytes))
tested text false bytes f g =
    sym
    (by_test (begins_with text bytes) (λ e. let both : false ≡ true = g (drop (length text) bytes) (begins_so text bytes e) in absurd cc))
