use Rattle.std.proofs.Common.{◌≡◌, true, false, Ok, ap, refl, ◌∙◌}
use Rattle.survey.specs.Carriers.Steps.{due}
use Rattle.survey.proofs.Surveying.{goes_less, surveyed_none, surveyed_on}
use Rattle.survey.proofs.surveyor.Surveyor.go_on.Goals as goal

pub loop-goes-init : goal.loop-goes-init
loop-goes-init g c = record {
  surveyed = surveyed_none c.args.whole c.args.self.now;
  waits = λ (e : true ≡ false). absurd cc;
  total = refl;
}

pub loop-goes-preserved : goal.loop-goes-preserved
loop-goes-preserved g c = record {
  surveyed =
      surveyed_on c.args.whole c.args.self.now c.loop-goes.self c.step.new.self c.loop-goes.invariant.surveyed
      c.in_ok-goes.ensures.surveyed;
  waits = λ e. c.in_ok-goes.ensures.waits (ap Ok e);
  total = c.in_ok-goes.ensures.total ∙ c.loop-goes.invariant.total;
}

pub loop-goes-smaller : goal.loop-goes-smaller
loop-goes-smaller g c =
    goes_less _ c.loop-goes.goes (due c.step.new.self.standing c.step.new.self.rest)
    (due c.loop-goes.self.standing c.loop-goes.self.rest) c.loop-goes-test.true (λ e. c.in_ok-goes.ensures.less (ap Ok e))
    c.in_ok-goes.ensures.no_more

pub returns-clause-surveyed : goal.returns-clause-surveyed
returns-clause-surveyed g c = c.loop-goes.invariant.surveyed

pub returns-clause-waits : goal.returns-clause-waits
returns-clause-waits g c = c.loop-goes.invariant.waits c.loop-goes-test.false

pub returns-clause-total : goal.returns-clause-total
returns-clause-total g c = c.loop-goes.invariant.total
