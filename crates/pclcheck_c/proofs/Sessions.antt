-- Lemmas on sessions.
use Rattle.std.proofs.Common.{◌≡◌, ◌↔◌, ◌∙◌, Bool, true, false, ℕ, List, [], Option, Some, Result, Ok, Err, IfErr, IfOk, ap, refl, subst}
use Rattle.std.proofs.Common.{if◌then◌else◌, sym}
use Rattle.job_reports.specs.Groups.{Groups}
use Rattle.judgement.specs.declared.failing_item.Judgement.{Judgement}
use Rattle.preflight.specs.declared.kept_check.KeptCheck.{KeptCheck}
use Rattle.preflight.specs.declared.kept_check.KeptCheck.TheVariants.{Open, Judged, Stopped}
use Rattle.preflight.specs.Judgement.{IsAnswer}
use Rattle.preflight.specs.Kept.{HasEnded, HasKept, IsGoing, IsOver}
use Rattle.device_profile.specs.Printer.{Printer}
use Rattle.streams.specs.declared.error.Error.{Error}
use Rattle.streams.specs.declared.error.Error.TheVariants.{Items, Memory, NoProfile}
use Rattle.verdict.specs.Limits.{has_many_items}
use Rattle.pclcheck_c.specs.declared.fleet.Fleet.{Fleet}
use Rattle.pclcheck_c.specs.declared.kept_session.KeptSession.{KeptSession}
use Rattle.foreign_calls.specs.Answers.{Told}
use Rattle.foreign_calls.specs.declared.why.Why.{Why}
use Rattle.foreign_calls.specs.Checked.{IsSentenceOf, IsTextOf}
use Rattle.pclcheck_c.specs.Fleets.{asked}
use Rattle.pclcheck_c.specs.Sessions.{EndsAs, GoesOn, OnHeld, answer_of, printers_for}

-- ---- what is held

-- the session that is held goes on for the fleet that is held
pub goes : (held : Option Fleet) (session : Option KeptSession) (fleet fleet' : Fleet) (kept kept' : KeptSession) → held ≡ Some fleet →
    session ≡ Some kept → fleet' ≡ fleet → kept' ≡ kept → GoesOn held session → IsGoing (printers_for fleet' kept') kept'.check
goes held session fleet fleet' kept kept' is is' same same' going =
    subst (λ (k : KeptSession). IsGoing (printers_for fleet' k) k.check) (sym same')
    (subst (λ (f : Fleet). IsGoing (printers_for f kept) kept.check) (sym same)
    (subst (λ (s : Option KeptSession). GoesOn (Some fleet) s) is' (subst (λ (h : Option Fleet). GoesOn h session) is going)))

-- so does what a call did to them
pub on_held : (held : Option Fleet) (old new : Option KeptSession) (fleet fleet' : Fleet) (kept kept' after : KeptSession)
    (P : Fleet → KeptSession → KeptSession → Type 0) → held ≡ Some fleet → old ≡ Some kept → new ≡ Some after → fleet' ≡ fleet →
    kept' ≡ kept → P fleet' kept' after → OnHeld held old new P
on_held held old new fleet fleet' kept kept' after P is is' are same same' said =
    subst (λ (h : Option Fleet). OnHeld h old new P) (sym is)
    (subst (λ (s : Option KeptSession). OnHeld (Some fleet) s new P) (sym is')
    (subst (λ (s : Option KeptSession). OnHeld (Some fleet) (Some kept) s P) (sym are)
    (subst (λ (k : KeptSession). P fleet k after) same' (subst (λ (f : Fleet). P f kept' after) same said))))

-- ---- by another name

module _ {A : Type 0} (a b : KeptCheck A) (same : a ≡ b) where
  pub going_by : (fleet : List Printer) → IsGoing fleet a → IsGoing fleet b
  going_by fleet h = subst (λ (k : KeptCheck A). IsGoing fleet k) same h

  pub kept_by : (fleet : List Printer) (bytes : List ℕ) → HasKept fleet bytes a → HasKept fleet bytes b
  kept_by fleet bytes h = subst (λ (k : KeptCheck A). HasKept fleet bytes k) same h

  pub over_by : IsOver a → IsOver b
  over_by h = subst (λ (k : KeptCheck A). IsOver k) same h

-- ---- no printer

same_error : {X : Type 0} (error : Error) (r : Result X Error) → r ≡ Err error → r ≡ Err NoProfile → error ≡ NoProfile
same_error error r is none = cc

not_memory : (error : Error) → error ≡ Memory → error ≡ NoProfile → ⊥
not_memory error is none = absurd cc

not_done : {X : Type 0} (value : X) (r : Result X Error) → r ≡ Ok value → r ≡ Err NoProfile → ⊥
not_done value r is none = absurd cc

module _ {X Y : Type 0} (x : Result X Error) (y : Result Y Error) (P : Type 0) (h : (x ≡ Err NoProfile) ↔ P) where
  -- both are done
  pub done_alike : (value : X) (value' : Y) → x ≡ Ok value → y ≡ Ok value' → (y ≡ Err NoProfile) ↔ P
  done_alike value value' is is' = (λ none. absurd (not_done value' y is' none), λ p. absurd (not_done value x is (h.1 p)))

  -- both stopped by the same error
  pub stopped_alike : (error : Error) → x ≡ Err error → y ≡ Err error → (y ≡ Err NoProfile) ↔ P
  stopped_alike error is is' = (
    λ none. h.0 (is ∙ ap (λ (e : Error). Err e) (same_error error y is' none)),
    λ p. is' ∙ ap (λ (e : Error). Err e) (same_error error x is (h.1 p)),
  )

-- the one is done, and the other is too, or memory was refused
pub held_alike : {X Y : Type 0} (x : Result X Error) (y : Result Y Error) (P : Type 0) → (x ≡ Err NoProfile) ↔ P → (value : X) →
    x ≡ Ok value → IfErr y (λ error. error ≡ Memory) → (y ≡ Err NoProfile) ↔ P
held_alike x (Ok held) P h value is memory = done_alike x (Ok held) P h value held is refl
held_alike x (Err error) P h value is memory = (
  λ none. absurd (not_memory error memory (same_error error (Err error) refl none)),
  λ p. absurd (not_done value x is (h.1 p)),
)

-- ---- a session that begins

pub begun_right : {X : Type 0} (work : Result X Error) (value : X → KeptSession) (fleet : Fleet) (session : KeptSession) →
    HasKept (printers_for fleet session) [] session.check → IfOk work (λ held. value held ≡ session) →
    IfOk work (λ held. ((value held).printer ≡ session.printer) × HasKept (printers_for fleet (value held)) [] (value held).check)
begun_right (Ok held) value fleet session kept is = (
  ap (λ (s : KeptSession). s.printer) is,
  subst (λ (s : KeptSession). HasKept (printers_for fleet s) [] s.check) (sym is) kept,
)
begun_right (Err error) value fleet session kept is = tt

-- ---- the sentence

by_limit : (group : Groups) (name bytes : List ℕ) (answer : Judgement) (told : Told) (many : Bool) → IsAnswer group.fleet bytes answer →
    IsTextOf group name (if many then Err Items else Ok answer) told → IsSentenceOf group name bytes told
by_limit group name bytes answer told true right text = absurd text
by_limit group name bytes answer told false right text = (answer, right, text.0, text.1)

sentence_by : {A : Type 0} (group : Groups) (name bytes : List ℕ) (check : KeptCheck A) (told : Told) →
    HasEnded group.fleet bytes check → IsTextOf group name (answer_of check) told → IsSentenceOf group name bytes told
sentence_by group name bytes (Open check) told ended text = absurd ended
sentence_by group name bytes (Judged answer) told ended text =
    by_limit group name bytes answer told (has_many_items answer.verdict) ended text
sentence_by group name bytes (Stopped error) told ended text = absurd text

pub says : (work : Result Told Why) (fleet : Fleet) (old new : KeptSession) (name : List ℕ) (answer : Result Judgement Error) →
    EndsAs fleet old new → answer ≡ answer_of new.check → IfOk work (IsTextOf (asked fleet new.printer) name answer) →
    IfOk work
    (λ told. (bytes : List ℕ) → HasKept (printers_for fleet old) bytes old.check → IsSentenceOf (asked fleet old.printer) name bytes told)
says (Ok told) fleet old new name answer ends is text = λ bytes kept.
    sentence_by (asked fleet old.printer) name bytes new.check told (ends.ended bytes kept)
    (subst (λ (printer : ℕ). IsTextOf (asked fleet printer) name (answer_of new.check) told) ends.printer_is
    (subst (λ (a : Result Judgement Error). IsTextOf (asked fleet new.printer) name a told) is text))
says (Err why) fleet old new name answer ends is text = tt
