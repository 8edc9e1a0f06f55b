-- A check that is kept between two pieces.
use Rattle.std.proofs.Common.{◌≡◌, ◌∙◌, ℕ, List, [], ◌∷◌, ◌++◌, append-nil, append_assoc, ap, false, refl, subst, sym, true}
use Rattle.pcl_lexer.specs.Lexing.Meaning.{MayBe}
use Rattle.device_profile.specs.Printer.{Printer}
use Rattle.page_machine.specs.MachineState.{MachineState}
use Rattle.verdict.specs.declared.verdict.Verdict.{Verdict}
use Rattle.preflight.specs.declared.check_state.CheckState.TheVariants as states
use Rattle.judgement.specs.declared.failing_item.Judgement.{Judgement}
use Rattle.preflight.specs.declared.kept_check.KeptCheck.{KeptCheck}
use Rattle.preflight.specs.declared.kept_check.KeptCheck.TheVariants.{Open, Judged, Stopped}
use Rattle.preflight.specs.Carriers.Checking.{Along, printers_of}
use Rattle.preflight.specs.Carriers.Detached.{DetachedCheck, IsLeftOf, IsUsed, WasFed}
use Rattle.preflight.specs.Carriers.Each.{Each}
use Rattle.preflight.specs.Judgement.{IsAnswer, IsJudgementOn}
use Rattle.preflight.specs.Kept.{HasKept, IsGoing, IsOver}
use Rattle.preflight.specs.Session.{ChecksTo, HasChecked, SessionState}
use Rattle.preflight.specs.Where.{page_with}
use Rattle.page_machine.specs.Job.{ItemRun}
use Rattle.pcl_items.specs.Items.{Placed}
use Rattle.preflight.proofs.Sessions.{opened}

-- machines that come along with a fleet run its printers
along_printers : (items : List Placed) (done : List ItemRun) (fleet : List Printer) (machines : List MachineState) →
    Each (Along items done) fleet machines → printers_of machines ≡ fleet
along_printers items done [] [] along = refl
along_printers items done [] (m ∷ ms) along = absurd along
along_printers items done (p ∷ ps) [] along = absurd along
along_printers items done (p ∷ ps) (m ∷ ms) along =
    ap (λ (q : Printer). q ∷ printers_of ms) along.0.printer_is
    ∙ ap (λ (qs : List Printer). p ∷ qs) (along_printers items done ps ms along.1)

-- what is left of a session that is open was fed what that was
pub was_fed : (session : SessionState) (check : DetachedCheck) (fleet : List Printer) (bytes : List ℕ) →
    session.state ≡ states.Open → IsLeftOf session check → HasChecked fleet bytes session → WasFed fleet bytes check
was_fed session check fleet bytes is left checked =
    let executed = (opened session fleet bytes is checked).0 in
    let back = left.back fleet (along_printers executed.items executed.done fleet session.machines executed.along) in
    record { left = back.0; checked = subst (HasChecked fleet bytes) (sym back.1) checked }

-- a session that is judged answers so on every job that begins with what it was fed
pub answers_so : (session : SessionState) (verdict : Verdict) (answer : Judgement) (fleet : List Printer) (bytes : List ℕ) →
    session.state ≡ states.Judged verdict
    → ((fleet : List Printer) (job : List ℕ) →
    IsJudgementOn fleet job verdict session.failing_item (page_with verdict session.counts) session.machines → IsAnswer fleet job answer)
    → HasChecked fleet bytes session → (job : List ℕ) → MayBe false bytes job → IsAnswer fleet job answer
answers_so session verdict answer fleet bytes is right checked = λ job may.
    right fleet job (subst (λ state. ChecksTo state fleet bytes session) is checked job may)

-- once it is judged, a piece changes nothing
pub still_answered : (fleet : List Printer) (bytes piece : List ℕ) (answer : Judgement) →
    ((job : List ℕ) → MayBe false bytes job → IsAnswer fleet job answer) → (job : List ℕ) →
    MayBe false (bytes ++ piece) job → IsAnswer fleet job answer
still_answered fleet bytes piece answer known = λ job may.
    known job (piece ++ may.0, may.1 ∙ append_assoc bytes piece may.0, λ e. let both : false ≡ true = e in absurd cc)

-- ---- by how it stands

pub going : {A : Type 0} (kept : KeptCheck A) (fleet : List Printer) (bytes : List ℕ) → HasKept fleet bytes kept →
    IsGoing fleet kept
going (Open check) fleet bytes h = record { bytes = bytes; fed = h }
going (Judged answer) fleet bytes h = tt
going (Stopped error) fleet bytes h = tt

module _ {A : Type 0} (kept : KeptCheck A) where
  module _ (check : DetachedCheck) (is : kept ≡ Open check) where
    pub used : (fleet : List Printer) → IsGoing fleet kept → IsUsed fleet check
    used fleet h = subst (λ (k : KeptCheck A). IsGoing fleet k) is h

    pub fed_of : (fleet : List Printer) (bytes : List ℕ) → HasKept fleet bytes kept → WasFed fleet bytes check
    fed_of fleet bytes h = subst (λ (k : KeptCheck A). HasKept fleet bytes k) is h

    pub not_over : IsOver kept → ⊥
    not_over h = subst (λ (k : KeptCheck A). IsOver k) is h

  module _ (answer : Judgement) (is : kept ≡ Judged answer) where
    pub answered : (fleet : List Printer) (bytes : List ℕ) → HasKept fleet bytes kept → (job : List ℕ) → MayBe false bytes job →
        IsAnswer fleet job answer
    answered fleet bytes h = subst (λ (k : KeptCheck A). HasKept fleet bytes k) is h

    pub answered_now : (fleet : List Printer) (bytes : List ℕ) → HasKept fleet bytes kept → IsAnswer fleet bytes answer
    answered_now fleet bytes h = answered fleet bytes h bytes ([], sym (append-nil bytes), λ e. refl)
