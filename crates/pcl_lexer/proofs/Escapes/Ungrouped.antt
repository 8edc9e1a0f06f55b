-- The sequences without a group, read and by their rules.
use Rattle.std.proofs.Common.{◌≡◌, ℕ, ◌≤◌, true, cond, Option, None, Some, refl, sym, ap, subst, ◌∙◌, arith}
use Rattle.std.specs.Prelude.{◌==◌, ◌&&◌, not}
use Rattle.std.proofs.lemmas.Bool.{eqb-true, eq-eqb, and_from, cond_both, cond-true}
use Rattle.pcl_items.specs.declared.number.Sign.{Sign}
use Rattle.pcl_items.specs.declared.number.Sign.TheVariants.{Absent, Plus, Minus}
use Rattle.pcl_items.specs.declared.frame.Handover.{Handover}
use Rattle.pcl_items.specs.declared.frame.Handover.TheVariants.{Previous, Current}
use Rattle.pcl_items.specs.declared.item.Mode.{Mode}
use Rattle.pcl_items.specs.declared.item.Mode.TheVariants as modes
use Rattle.pcl_items.specs.Escapes.Value.{Amount}
use Rattle.pcl_items.specs.Items.{Entry, DefaultFont}
use Rattle.pcl_items.specs.Escapes.SetLetters.{is_set_letter}
use Rattle.pcl_lexer.specs.Escapes.Ungrouped.{is_minus, is_three, font_at, handover_of, leaving, entering, language_at, ungrouped_at}
use Rattle.pcl_lexer.specs.Modes.{between}
use Rattle.pcl_lexer.specs.Grammar.{HandsOver, previous, current, IsUngrouped, symbol_set, default_font, leave_frame, enter_frame}
use Rattle.pcl_lexer.specs.Reader.{behind_ungrouped}
use Rattle.pcl_lexer.proofs.Escapes.Tables.{both_true, set_letter_is, is_set_letter-true}

-- ---- what is read has its rule

abbrev IsFound : ℕ → Amount → ℕ → Option Entry → Type 0
IsFound i a c None = Unit {0}
IsFound i a c (Some item) = (mode : Mode) × IsUngrouped i a c item mode × (behind_ungrouped item ≡ between mode)

not_minus : (s : Sign) → not (is_minus s) ≡ true → s ≡ Minus → ⊥
not_minus Absent h e = absurd cc
not_minus Plus h e = absurd cc
not_minus Minus h e = absurd cc

font_found : (a : Amount) (c : ℕ) → IsFound 40 a c (font_at a c)
font_found a c =
    cond_both (is_set_letter c) _ _ (IsFound 40 a c) (λ e. (modes.Pcl, symbol_set (set_letter_is c e), refl)) (λ _.
    cond_both ((c == 64) && is_three a) _ _ (IsFound 40 a c) (λ e.
    let t = both_true (c == 64) (is_three a) e in
    let u = both_true (a.ten_thousandths == 30000) (not (is_minus a.sign)) t.1 in
    subst (λ n. IsFound 40 a n (Some DefaultFont)) (sym (eqb-true c 64 t.0))
    (modes.Pcl, default_font (eqb-true a.ten_thousandths 30000 u.0) (not_minus a.sign u.1), refl)) (λ _. tt))

-- whose position a number hands over
abbrev pub IsHandedOver : Amount → Option Handover → Type 0
IsHandedOver a None = Unit {0}
IsHandedOver a (Some handover) = HandsOver a handover

pub hands_over : (a : Amount) → IsHandedOver a (handover_of a)
hands_over a =
    cond_both (a.ten_thousandths == 0) _ _ (IsHandedOver a) (λ e. previous (eqb-true a.ten_thousandths 0 e)) (λ _.
    cond_both ((a.ten_thousandths == 10000) && not (is_minus a.sign)) _ _ (IsHandedOver a) (λ e.
    let t = both_true (a.ten_thousandths == 10000) (not (is_minus a.sign)) e in
    current (eqb-true a.ten_thousandths 10000 t.0) (not_minus a.sign t.1)) (λ _. tt))

leaving_found : (a : Amount) (o : Option Handover) → IsHandedOver a o → IsFound 37 a 65 (leaving o)
leaving_found a None h = tt
leaving_found a (Some handover) h = (modes.Pcl, leave_frame h, refl)

entering_found : (a : Amount) (o : Option Handover) → IsHandedOver a o → IsFound 37 a 66 (entering o)
entering_found a None h = tt
entering_found a (Some handover) h = (modes.Frame, enter_frame h, refl)

language_found : (a : Amount) (c : ℕ) → IsFound 37 a c (language_at a c)
language_found a c =
    cond_both (c == 66) _ _ (IsFound 37 a c) (λ e.
    subst (λ n. IsFound 37 a n (entering (handover_of a))) (sym (eqb-true c 66 e)) (entering_found a (handover_of a) (hands_over a))) (λ _.
    cond_both (c == 65) _ _ (IsFound 37 a c) (λ e.
    subst (λ n. IsFound 37 a n (leaving (handover_of a))) (sym (eqb-true c 65 e))
    (leaving_found a (handover_of a) (hands_over a))) (λ _. tt))

is_found : (i : ℕ) (a : Amount) (c : ℕ) → IsFound i a c (ungrouped_at i a c)
is_found i a c =
    cond_both (i == 40) _ _ (IsFound i a c) (λ e. subst (λ n. IsFound n a c (font_at a c)) (sym (eqb-true i 40 e)) (font_found a c)) (λ _.
    cond_both (i == 37) _ _ (IsFound i a c)
    (λ e. subst (λ n. IsFound n a c (language_at a c)) (sym (eqb-true i 37 e)) (language_found a c)) (λ _. tt))

pub ungrouped_found : (i : ℕ) (a : Amount) (c : ℕ) (item : Entry) → ungrouped_at i a c ≡ Some item →
    (mode : Mode) × IsUngrouped i a c item mode × (behind_ungrouped item ≡ between mode)
ungrouped_found i a c item e = subst (IsFound i a c) e (is_found i a c)

-- ---- what has a rule is read

plus_like : (s : Sign) → (s ≡ Minus → ⊥) → not (is_minus s) ≡ true
plus_like Absent h = refl
plus_like Plus h = refl
plus_like Minus h = absurd (h refl)

pub handed_over : {a : Amount} {handover : Handover} → HandsOver a handover → handover_of a ≡ Some handover
handed_over (previous {amount = a} e) = cond-true (a.ten_thousandths == 0) _ _ (eq-eqb a.ten_thousandths 0 e)
handed_over (current {amount = a} e sign) =
    ap (λ n. cond (n == 0) (Some Previous) (cond ((n == 10000) && not (is_minus a.sign)) (Some Current) None)) e
    ∙ cond-true (not (is_minus a.sign)) _ _ (plus_like a.sign sign)

pub ungrouped_known : {i : ℕ} {a : Amount} {c : ℕ} {item : Entry} {mode : Mode} → IsUngrouped i a c item mode →
    ungrouped_at i a c ≡ Some item
ungrouped_known (symbol_set {amount = a} {letter = c} h) = cond-true (is_set_letter c) _ _ (is_set_letter-true c h)
ungrouped_known (default_font {amount = a} three sign) =
    cond-true (is_three a) _ _
    (and_from (a.ten_thousandths == 30000) (not (is_minus a.sign)) (eq-eqb a.ten_thousandths 30000 three) (plus_like a.sign sign))
ungrouped_known (leave_frame h) = ap leaving (handed_over h)
ungrouped_known (enter_frame h) = ap entering (handed_over h)

-- the reader goes on in the mode behind it
pub ungrouped_behind_is : {i : ℕ} {a : Amount} {c : ℕ} {item : Entry} {mode : Mode} → IsUngrouped i a c item mode →
    behind_ungrouped item ≡ between mode
ungrouped_behind_is (symbol_set h) = refl
ungrouped_behind_is (default_font three sign) = refl
ungrouped_behind_is (leave_frame h) = refl
ungrouped_behind_is (enter_frame h) = refl

pub ungrouped_none : (i : ℕ) (a : Amount) (c : ℕ) (o : Option Entry) → ((item : Entry) (mode : Mode) → IsUngrouped i a c item mode → ⊥) →
    ungrouped_at i a c ≡ o → o ≡ None
ungrouped_none i a c None h e = refl
ungrouped_none i a c (Some item) h e = let f = ungrouped_found i a c item e in absurd (h item f.0 f.1)

-- its letter is a termination character
pub ungrouped_letter : {i : ℕ} {a : Amount} {c : ℕ} {item : Entry} {mode : Mode} → IsUngrouped i a c item mode → (64 ≤ c) × (c ≤ 94)
ungrouped_letter (symbol_set h) = (omega (arith, h.0), omega (arith, h.1))
ungrouped_letter (default_font three sign) = (omega arith, omega arith)
ungrouped_letter (leave_frame h) = (omega arith, omega arith)
ungrouped_letter (enter_frame h) = (omega arith, omega arith)
