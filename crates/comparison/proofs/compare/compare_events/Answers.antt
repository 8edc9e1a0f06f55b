use Rattle.std.proofs.Common.{refl, subst, sym, ◌∙◌}
use Rattle.std.proofs.lemmas.Result.{IfOk-weaker}
use Rattle.comparison.specs.Comparing.{EndsCompare, EventsCompare, StepCompared}
use Rattle.comparison.proofs.Ends.{errors_of_new, read_no_old}
use Rattle.comparison.proofs.compare.compare_events.Goals as goal

pub steps-init : goal.steps-init
steps-init g c = record {
  old_working = c.requires.old_job;
  new_working = c.requires.new_job;
  old_number = refl;
  new_number = refl;
  alike = λ printer panel old_first new_first before. before;
}

pub compare_step-requires-clause-running : goal.compare_step-requires-clause-running
compare_step-requires-clause-running g c = sym c.is_open.ensures ∙ c.steps-test.true

pub steps-preserved : goal.steps-preserved
steps-preserved g c =
    let so_far = c.steps.invariant in
    let new = c.compare_step.new in
    record {
      old_working = c.in_ok-found.ensures.old_read;
      new_working = c.in_ok-found.ensures.new_read;
      old_number = c.compare_step.ensures.old_number ∙ so_far.old_number;
      new_number = c.compare_step.ensures.new_number ∙ so_far.new_number;
      alike = λ printer panel old_first new_first before.
          subst
          (λ found. StepCompared found printer panel old_first (g.S.Source.state new.old_job) new_first (g.T.Source.state new.new_job)
          new.first new.spot new.second)
          c.in-None.is
          (c.in_ok-found.ensures.compared printer panel old_first new_first (so_far.alike printer panel old_first new_first before));
    }

pub steps-smaller : goal.steps-smaller
steps-smaller g c = c.in_ok-found.ensures.less

pub returns-in-Some-clause-compared : goal.returns-in-Some-clause-compared
returns-in-Some-clause-compared g c = λ printer panel old_first new_first before.
    let new = c.compare_step.new in
    subst
    (λ found. StepCompared found printer panel old_first (g.S.Source.state new.old_job) new_first (g.T.Source.state new.new_job)
    new.first new.spot new.second)
    c.in-Some.is
    (c.in_ok-found.ensures.compared printer panel old_first new_first
    (c.steps.invariant.alike printer panel old_first new_first before))

pub compare_ends-requires-clause-over : goal.compare_ends-requires-clause-over
compare_ends-requires-clause-over g c = sym c.is_open.ensures ∙ c.steps-test.false

pub returns-clause-compared : goal.returns-clause-compared
returns-clause-compared g c =
    let old_now' = g.S.Source.state c.steps.old_job in
    let new_now' = g.T.Source.state c.compare_ends.new.new_job in
    IfOk-weaker c.compare_ends.result
    (EndsCompare (g.T.Source.state c.steps.new_job) new_now' c.steps.first c.steps.spot c.steps.second c.compare_ends.new.second)
    (EventsCompare (g.S.Source.state c.args.old_job.now) old_now' (g.T.Source.state c.args.new_job.now) new_now' c.args.first.now
    c.steps.first c.args.spot.now c.args.second.now c.compare_ends.new.second)
    (λ found ends printer panel old_first new_first before.
    ends printer panel old_first old_now' new_first (c.steps.invariant.alike printer panel old_first new_first before))
    c.compare_ends.ensures.compared

pub returns-clause-old_read : goal.returns-clause-old_read
returns-clause-old_read g c = c.steps.invariant.old_working ∙ sym (read_no_old c.compare_ends.result c.compare_ends.ensures.err)

pub returns-clause-old_number : goal.returns-clause-old_number
returns-clause-old_number g c = c.steps.invariant.old_number

pub returns-clause-new_number : goal.returns-clause-new_number
returns-clause-new_number g c = c.compare_ends.ensures.number ∙ c.steps.invariant.new_number

pub returns-clause-err : goal.returns-clause-err
returns-clause-err g c = errors_of_new c.compare_ends.result c.compare_ends.ensures.err

pub returns-in_err-found-clause-old_number : goal.returns-in_err-found-clause-old_number
returns-in_err-found-clause-old_number g c = c.compare_step.ensures.old_number ∙ c.steps.invariant.old_number

pub returns-in_err-found-clause-new_number : goal.returns-in_err-found-clause-new_number
returns-in_err-found-clause-new_number g c = c.compare_step.ensures.new_number ∙ c.steps.invariant.new_number

pub returns-in-Some-clause-old_number : goal.returns-in-Some-clause-old_number
returns-in-Some-clause-old_number g c = c.compare_step.ensures.old_number ∙ c.steps.invariant.old_number

pub returns-in-Some-clause-new_number : goal.returns-in-Some-clause-new_number
returns-in-Some-clause-new_number g c = c.compare_step.ensures.new_number ∙ c.steps.invariant.new_number
