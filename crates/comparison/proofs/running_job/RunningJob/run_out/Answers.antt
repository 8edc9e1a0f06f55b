use Rattle.std.proofs.Common.{◌≡◌, ap, false, refl, sym, ◌∙◌}
use Rattle.std.proofs.lemmas.Bool.{false≢true}
use Rattle.comparison.specs.Running.{RunState, is_open}
use Rattle.comparison.proofs.Running.{ran_none, ran_on}
use Rattle.comparison.proofs.running_job.RunningJob.run_out.Goals as goal

pub steps-init : goal.steps-init
steps-init g c = record {
  working = c.requires;
  number = refl;
  same = λ over. refl;
  run = ran_none (g.S.Source.state c.args.source.now) c.args.self.now;
}

pub step-requires-clause-running : goal.step-requires-clause-running
step-requires-clause-running g c = sym c.is_open.ensures ∙ c.steps-test.true

pub steps-preserved : goal.steps-preserved
steps-preserved g c =
    let so_far = c.steps.invariant in
    let never = λ (over : is_open c.args.self.now.progress ≡ false).
    false≢true (sym (ap (λ (s : RunState). is_open s.progress) (so_far.same over) ∙ over)
    ∙ (sym c.is_open.ensures ∙ c.steps-test.true)) in
    record {
      working = c.in_ok-step.ensures.read;
      number = c.step.ensures.number ∙ so_far.number;
      same = λ over. absurd (never over);
      run =
          ran_on (g.S.Source.state c.args.source.now) (g.S.Source.state c.steps.source) (g.S.Source.state c.step.new.source)
          c.args.self.now c.steps.self c.step.new.self never so_far.run c.in_ok-step.ensures.run;
    }

pub steps-smaller : goal.steps-smaller
steps-smaller g c = c.in_ok-step.ensures.less

pub returns-clause-run : goal.returns-clause-run
returns-clause-run g c = c.steps.invariant.run

pub returns-clause-over : goal.returns-clause-over
returns-clause-over g c = sym c.is_open.ensures ∙ c.steps-test.false
