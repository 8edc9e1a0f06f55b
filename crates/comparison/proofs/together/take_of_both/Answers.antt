use Rattle.std.proofs.Common.{ap, subst, ◌∙◌}
use Rattle.comparison.specs.Running.{RunState, TakesRead}
use Rattle.comparison.proofs.together.take_of_both.Goals as goal

pub returns-clause-taken : goal.returns-clause-taken
returns-clause-taken g c =
    let copy = c.in_ok-second.ensures in
    let second = c.take_read-2.new.self in (
      c.in_ok-take_read-3.ensures.taken,
      subst (λ (s : RunState). TakesRead c.args.other.now s second) copy c.in_ok-take_read-2.ensures.taken,
      c.in_ok-take_read-2.ensures.none,
      c.take_read-2.ensures.number ∙ ap (λ (s : RunState). s.number) copy,
    )
