use Rattle.std.proofs.Common.{ℕ, List}
use Rattle.std.proofs.lemmas.Result.{IfOk-weaker}
use Rattle.device_profile.specs.Printer.{Printer}
use Rattle.preflight.specs.Session.{HasChecked}
use Rattle.preflight.specs.Judgement.{IsJudgementOn}
use Rattle.preflight.specs.Where.{page_with}
use Rattle.judgement.specs.Verdict.{IsExact, VerdictHolds}
use Rattle.preflight.proofs.session.Session.end.Goals as goal

pub returns-clause-exact : goal.returns-clause-exact
returns-clause-exact g c =
    IfOk-weaker c.verdict.result (λ verdict.
    (fleet : List Printer) (bytes : List ℕ) → HasChecked fleet bytes c.args.self →
    IsJudgementOn fleet bytes verdict c.verdict.new.self.failing_item (page_with verdict c.verdict.new.self.counts)
    c.verdict.new.self.machines)
    (λ verdict. (fleet : List Printer) (bytes : List ℕ) → HasChecked fleet bytes c.args.self → IsExact fleet bytes verdict)
    (λ verdict ended fleet bytes checked. (ended fleet bytes checked).0) c.verdict.ensures.ended

pub returns-clause-headline : goal.returns-clause-headline
returns-clause-headline g c =
    IfOk-weaker c.verdict.result (λ verdict.
    (fleet : List Printer) (bytes : List ℕ) → HasChecked fleet bytes c.args.self →
    IsJudgementOn fleet bytes verdict c.verdict.new.self.failing_item (page_with verdict c.verdict.new.self.counts)
    c.verdict.new.self.machines)
    (λ verdict. (fleet : List Printer) (bytes : List ℕ) → HasChecked fleet bytes c.args.self → VerdictHolds fleet bytes verdict)
    (λ verdict ended fleet bytes checked. (ended fleet bytes checked).1) c.verdict.ensures.ended

pub returns-clause-after_verdict : goal.returns-clause-after_verdict
returns-clause-after_verdict g c = c.verdict.ensures.judged

pub returns-clause-after_error : goal.returns-clause-after_error
returns-clause-after_error g c = c.verdict.ensures.stopped

pub returns-clause-errors : goal.returns-clause-errors
returns-clause-errors g c = c.verdict.ensures.errors
