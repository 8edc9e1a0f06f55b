-- Enter PCL mode in a frame, read and by its rules.
use Rattle.std.proofs.Common.{◌≡◌, ℕ, ◌+◌, ◌≤◌, List, [], ◌∷◌, ◌++◌, length, drop, Option, None, Some, refl, sym, ap, subst, ◌∙◌, arith}
use Rattle.std.specs.Prelude.{◌==◌, nat_lt}
use Rattle.std.proofs.lemmas.Bool.{eqb-true, eqb-false, cond_both, cond-true, cond-false, ltb-true, ltb-false, le-ltb, both_ways}
use Rattle.std.proofs.Math.Seq.{drop-append_seam}
use Rattle.pcl_items.specs.declared.frame.Handover.{Handover}
use Rattle.pcl_items.specs.declared.fault.Name.TheVariants as names
use Rattle.pcl_items.specs.declared.fault.LexCause.{LexCause}
use Rattle.pcl_items.specs.declared.fault.LexCause.TheVariants.{Syntax, Truncated, NotInProfile, BadNumber}
use Rattle.pcl_items.specs.Escapes.Value.{Amount}
use Rattle.pcl_lexer.specs.Escapes.Field.{field_at, amount_of}
use Rattle.pcl_items.specs.Escapes.ValueField.{IsField}
use Rattle.pcl_items.specs.Items.{Entry, LeaveFrame}
use Rattle.pcl_lexer.specs.Lexing.Contexts.{Context, Pcl}
use Rattle.pcl_lexer.specs.Lexing.Firsts.{First, Open, Passes, Begins, Faulty, is_termination}
use Rattle.pcl_lexer.specs.Escapes.Ungrouped.{handover_of, leaving, leave_at}
use Rattle.pcl_lexer.specs.Escapes.FieldFaults.{IsCapital}
use Rattle.pcl_lexer.specs.Frames.Reader.{left_by, by_language, after_language_field, language_in}
use Rattle.pcl_lexer.specs.Frames.Grammar.{HandsOver}
use Rattle.pcl_lexer.specs.Frames.Faults.{LeaveFault, leave_number, no_letter, unknown_language, cut_leave}
use Rattle.pcl_lexer.proofs.Escapes.Tables.{by_test}
use Rattle.pcl_lexer.proofs.Reading.Causes.{Causes, causes_fault, causes_open}
use Rattle.pcl_lexer.proofs.Escapes.Fields.{EndsIn, ends_at_letter, field_read}
use Rattle.pcl_lexer.proofs.Escapes.Shapes.{ends_in, long_fault, range_fault, cut_shape, number_fault, cut_read}
use Rattle.pcl_lexer.proofs.Escapes.Ungrouped.{IsHandedOver, hands_over, handed_over}
use Rattle.pcl_lexer.proofs.Escapes.FaultHeads.{capital_is, is_capital, front}

-- ---- what is read has its rule

pub data HeadLeave : List ℕ → Entry → ℕ → Context → Type 0 where
  head : {field : List ℕ} {amount : Amount} {handover : Handover} (rest : List ℕ) → IsField field amount → HandsOver amount handover →
      HeadLeave (field ++ 65 ∷ rest) (LeaveFrame handover) (length field + 3) Pcl

abbrev pub TellsLeave : List ℕ → First → Type 0
TellsLeave bytes Open = LeaveFault bytes Truncated
TellsLeave bytes (Passes len next) = ⊥
TellsLeave bytes (Begins item len next) = HeadLeave bytes item len next
TellsLeave bytes (Faulty cause) = LeaveFault bytes cause

none_handed : (a : Amount) (handover : Handover) → handover_of a ≡ None → HandsOver a handover → ⊥
none_handed a handover e h = let both : None ≡ Some handover = sym e ∙ handed_over h in absurd cc

told_handover : (o : Option Handover) (text : List ℕ) (a : Amount) (rest : List ℕ) → IsField text a → IsHandedOver a o → handover_of a ≡ o →
    TellsLeave (text ++ 65 ∷ rest) (left_by (leaving o) 65 (length text + 3))
told_handover None text a rest f h e = unknown_language rest f (omega arith, omega arith) (λ handover _ k. none_handed a handover e k)
told_handover (Some handover) text a rest f h e = head rest f h

told_letter : (text : List ℕ) (a : Amount) (c : ℕ) (rest : List ℕ) → IsField text a → IsCapital c →
    TellsLeave (text ++ c ∷ rest) (left_by (leave_at a c) c (length text + 3))
told_letter text a c rest f capital =
    cond_both (c == 65) _ _ (λ (o : Option Entry). TellsLeave (text ++ c ∷ rest) (left_by o c (length text + 3)))
    (λ e. subst (λ (n : ℕ). TellsLeave (text ++ n ∷ rest) (left_by (leaving (handover_of a)) n (length text + 3))) (sym (eqb-true c 65 e))
    (told_handover (handover_of a) text a rest f (hands_over a) refl))
    (λ e. unknown_language rest f capital (λ handover is k. eqb-false c 65 e is))

told_amount : (o : Option Amount) (bytes : List ℕ) (c : ℕ) (rest : List ℕ) → (field_at bytes).len ≤ 16 → amount_of (field_at bytes) ≡ o →
    drop (field_at bytes).len bytes ≡ c ∷ rest → TellsLeave bytes (by_language o (field_at bytes).len c)
told_amount None bytes c rest short e d = leave_number (range_fault bytes c rest short d e)
told_amount (Some a) bytes c rest short e d =
    let f = front bytes a c rest short e d in
    subst (λ (n : ℕ). TellsLeave bytes (by_language (Some a) n c)) (sym f.len)
    (subst (λ (b : List ℕ). TellsLeave b (by_language (Some a) (length f.text) c)) (sym f.whole)
    (cond_both (is_termination c) _ _ (TellsLeave (f.text ++ c ∷ rest)) (λ t. told_letter f.text a c rest f.field (capital_is c t))
    (λ t. no_letter rest f.field f.ends (λ h. both_ways (is_termination c) t (is_capital c h)))))

told_rest : (bytes rest : List ℕ) → (field_at bytes).len ≤ 16 → drop (field_at bytes).len bytes ≡ rest →
    TellsLeave bytes (after_language_field (field_at bytes) rest)
told_rest bytes [] short d = cut_leave (cut_shape bytes short d)
told_rest bytes (c ∷ rest) short d = told_amount (amount_of (field_at bytes)) bytes c rest short refl d

pub leave_told : (bytes : List ℕ) → TellsLeave bytes (language_in bytes)
unfolding language_in
leave_told bytes =
    cond_both (nat_lt 16 (field_at bytes).len) _ _ (TellsLeave bytes)
    (λ e. leave_number (long_fault bytes (ltb-true 16 (field_at bytes).len e)))
    (λ e. told_rest bytes (drop (field_at bytes).len bytes) (ltb-false 16 (field_at bytes).len e) refl)

-- ---- what is spelled is read

field_then : (text : List ℕ) (a : Amount) (c : ℕ) (rest : List ℕ) (f : IsField text a) → EndsIn a.sign f.whole f.fraction (c ∷ rest) →
    language_in (text ++ c ∷ rest) ≡ by_language (Some a) (length text) c
unfolding language_in
field_then text a c rest f end =
    let bytes : List ℕ = text ++ c ∷ rest in
    let r = field_read text a (c ∷ rest) f end in
    let fits : (field_at bytes).len ≤ 16 = omega (arith, r.len, f.short) in
    cond-false (nat_lt 16 (field_at bytes).len) _ _ (le-ltb 16 (field_at bytes).len fits)
    ∙ ap (λ n. after_language_field (field_at bytes) (drop n bytes)) r.len
    ∙ ap (after_language_field (field_at bytes)) (drop-append_seam text (c ∷ rest))
    ∙ ap (λ o. by_language o (field_at bytes).len c) r.amount
    ∙ ap (λ n. by_language (Some a) n c) r.len

pub leave_read : (text : List ℕ) (a : Amount) (rest : List ℕ) (handover : Handover) → IsField text a → HandsOver a handover →
    language_in (text ++ 65 ∷ rest) ≡ Begins (LeaveFrame handover) (length text + 3) Pcl
leave_read text a rest handover f h =
    field_then text a 65 rest f (ends_at_letter a.sign f.whole f.fraction 65 rest (omega arith))
    ∙ ap (λ o. left_by (leaving o) 65 (length text + 3)) (handed_over h)

none_leaves : (a : Amount) (c : ℕ) → ((handover : Handover) → c ≡ 65 → HandsOver a handover → ⊥) → leave_at a c ≡ None
none_leaves a c h =
    cond_both (c == 65) _ _ (λ (o : Option Entry). o ≡ None)
    (λ e. none_left (handover_of a) (hands_over a) (λ handover k. h handover (eqb-true c 65 e) k)) (λ _. refl)
  where
    none_left : (o : Option Handover) → IsHandedOver a o → ((handover : Handover) → HandsOver a handover → ⊥) → leaving o ≡ None
    none_left None k h = refl
    none_left (Some handover) k h = absurd (h handover k)

pub leave_causes : (bytes : List ℕ) (cause : LexCause) → LeaveFault bytes cause → Causes (language_in bytes) cause
unfolding language_in
leave_causes _ _ (leave_number {bytes = bytes} h) =
    causes_fault (language_in bytes) BadNumber (number_fault after_language_field bytes (λ f c rest e. ap (λ o. by_language o f.len c) e) h)
leave_causes _ _ (no_letter {text = text} {amount = a} {byte = c} rest f ends no_capital) =
    causes_fault (language_in (text ++ c ∷ rest)) Syntax
    (field_then text a c rest f (ends_in text a.sign f.whole f.fraction c rest f.shape ends)
    ∙ cond-false (is_termination c) _ _ (by_test (is_termination c) (λ e. no_capital (capital_is c e))))
leave_causes _ _ (unknown_language {text = text} {amount = a} {letter = c} rest f capital none) =
    causes_fault (language_in (text ++ c ∷ rest)) (NotInProfile (names.Pair 37 c))
    (field_then text a c rest f (ends_at_letter a.sign f.whole f.fraction c rest (omega (arith, capital.0)))
    ∙ cond-true (is_termination c) _ _ (is_capital c capital)
    ∙ ap (λ o. left_by o c (length text + 3)) (none_leaves a c none))
leave_causes _ _ (cut_leave {bytes = bytes} h) = causes_open (language_in bytes) (cut_read after_language_field bytes h).1
