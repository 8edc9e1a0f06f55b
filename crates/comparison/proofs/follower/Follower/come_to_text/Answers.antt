use Rattle.std.proofs.Common.{refl, ◌∙◌}
use Rattle.comparison.proofs.follower.Follower.come_to_text.Goals as goal

pub steps-init : goal.steps-init
steps-init g c = record { working = c.requires; number = refl; run = λ printer panel first made h. h }

pub go_on-requires-clause-lacks : goal.go_on-requires-clause-lacks
go_on-requires-clause-lacks g c = c.lacks_text.ensures c.steps-test.true

pub steps-preserved : goal.steps-preserved
steps-preserved g c = record {
  working = c.in_ok-go_on.ensures.read;
  number = c.go_on.ensures.number ∙ c.steps.invariant.number;
  run = λ printer panel first made h.
      c.in_ok-go_on.ensures.run printer panel first made (c.steps.invariant.run printer panel first made h);
}

pub steps-smaller : goal.steps-smaller
steps-smaller g c = c.in_ok-go_on.ensures.less

pub returns-clause-run : goal.returns-clause-run
returns-clause-run g c = c.steps.invariant.run
