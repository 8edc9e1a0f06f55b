-- What ESC and `%` lead in within a frame: what they do in mode PCL, but for the sequence that enters a frame.
use Rattle.std.proofs.Common.{◌≡◌, ℕ, ◌+◌, cond, List, [], ◌∷◌, drop, Bool, true, false, Option, None, Some, refl, sym, ap, subst, ◌∙◌}
use Rattle.std.specs.Prelude.{◌==◌, nat_lt}
use Rattle.std.proofs.lemmas.Bool.{eqb-true, cond_both, cond-true, cond-false}
use Rattle.pcl_items.specs.declared.frame.Handover.{Handover}
use Rattle.pcl_items.specs.declared.fault.Name.TheVariants as names
use Rattle.pcl_items.specs.declared.fault.LexCause.{LexCause}
use Rattle.pcl_items.specs.declared.fault.LexCause.TheVariants.{NotInProfile, BadNumber}
use Rattle.pcl_items.specs.Escapes.Value.{Amount}
use Rattle.pcl_lexer.specs.Escapes.Field.{Field, field_at, amount_of}
use Rattle.pcl_lexer.specs.Escapes.Ungrouped.{handover_of, leaving, entering, leave_at, language_at}
use Rattle.pcl_items.specs.Items.{Entry}
use Rattle.pcl_lexer.specs.Lexing.Firsts.{First, Faulty, is_termination}
use Rattle.pcl_lexer.specs.Reader.{ungrouped, by_termination, after_ungrouped_field, without_group}
use Rattle.pcl_lexer.specs.Frames.Reader.{left_by, by_language, after_language_field, language_in, enters_frame}

-- between frames and within one
abbrev within_frame : First → First
within_frame first = cond (enters_frame first) (Faulty (NotInProfile (names.Pair 37 66))) first

entering_in : (o : Option Handover) (len : ℕ) → within_frame (ungrouped (entering o) 37 66 len) ≡ Faulty (NotInProfile (names.Pair 37 66))
entering_in None len = refl
entering_in (Some handover) len = refl

leaving_in : (o : Option Handover) (c len : ℕ) → within_frame (ungrouped (leaving o) 37 c len) ≡ left_by (leaving o) c len
leaving_in None c len = refl
leaving_in (Some handover) c len = refl

letter_in : (a : Amount) (c len : ℕ) → within_frame (ungrouped (language_at a c) 37 c len) ≡ left_by (leave_at a c) c len
letter_in a c len =
    cond_both (c == 66) _ _ (λ (o : Option Entry). within_frame (ungrouped o 37 c len) ≡ left_by (leave_at a c) c len)
    (λ e. subst (λ (n : ℕ). within_frame (ungrouped (entering (handover_of a)) 37 n len) ≡ left_by (leave_at a n) n len)
    (sym (eqb-true c 66 e)) (entering_in (handover_of a) len))
    (λ _. cond_both (c == 65) _ _ (λ (o : Option Entry). within_frame (ungrouped o 37 c len) ≡ left_by o c len)
    (λ _. leaving_in (handover_of a) c len) (λ _. refl))

or_fault : (t : Bool) (cause : LexCause) (x y : First) → within_frame x ≡ y →
    within_frame (cond t x (Faulty cause)) ≡ cond t y (Faulty cause)
or_fault true cause x y h = h
or_fault false cause x y h = refl

amount_in : (o : Option Amount) (len c : ℕ) → within_frame (by_termination o 37 len c) ≡ by_language o len c
amount_in None len c = refl
amount_in (Some a) len c = or_fault (is_termination c) _ _ _ (letter_in a c (len + 3))

field_in : (f : Field) (bytes : List ℕ) → within_frame (after_ungrouped_field 37 f bytes) ≡ after_language_field f bytes
field_in f [] = refl
field_in f (c ∷ bytes) = amount_in (amount_of f) f.len c

too_long_or : (t : Bool) (x y : First) → within_frame x ≡ y → within_frame (cond t (Faulty BadNumber) x) ≡ cond t (Faulty BadNumber) y
too_long_or true x y h = refl
too_long_or false x y h = h

language_by : (bytes : List ℕ) (first : First) → first ≡ without_group 37 bytes → within_frame first ≡ language_in bytes
unfolding without_group language_in
language_by bytes first is =
    ap within_frame is ∙ too_long_or (nat_lt 16 (field_at bytes).len) _ _ (field_in (field_at bytes) (drop (field_at bytes).len bytes))

pub entered : (bytes : List ℕ) (first : First) → first ≡ without_group 37 bytes → enters_frame first ≡ true →
    Faulty (NotInProfile (names.Pair 37 66)) ≡ language_in bytes
entered bytes first is e =
    sym (cond-true (enters_frame first) (Faulty (NotInProfile (names.Pair 37 66))) first e) ∙ language_by bytes first is

pub stays : (bytes : List ℕ) (first : First) → first ≡ without_group 37 bytes → enters_frame first ≡ false → first ≡ language_in bytes
stays bytes first is e =
    sym (cond-false (enters_frame first) (Faulty (NotInProfile (names.Pair 37 66))) first e) ∙ language_by bytes first is
