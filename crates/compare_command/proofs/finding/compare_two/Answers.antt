use Rattle.std.proofs.Common.{IfOk, subst, sym}
use Rattle.streams.specs.Pieces.{ByReads}
use Rattle.compare_command.specs.declared.found.Manner.{Manner}
use Rattle.compare_command.specs.Outcomes.{IsOutcome}
use Rattle.compare_command.proofs.finding.compare_two.Goals as goal

pub returns-in-ByEvents-clause-compared : goal.returns-in-ByEvents-clause-compared
returns-in-ByEvents-clause-compared g c =
    subst
    (λ (manner : Manner). IfOk c.compare_events.result (λ outcome.
    ByReads (g.S.Source.state c.args.old_job.now) (g.S.Source.state c.compare_events.new.old_job) (λ one.
    ByReads (g.S.Source.state c.args.new_job.now) (g.S.Source.state c.compare_events.new.new_job) (λ other.
    IsOutcome manner c.args.number c.args.profile.now one other outcome))))
    (sym c.in-ByEvents.is) c.compare_events.ensures.compared

pub returns-in-ByPages-clause-compared : goal.returns-in-ByPages-clause-compared
returns-in-ByPages-clause-compared g c =
    subst
    (λ (manner : Manner). IfOk c.compare_all.result (λ outcome.
    ByReads (g.S.Source.state c.args.old_job.now) (g.S.Source.state c.compare_all.new.old_job) (λ one.
    ByReads (g.S.Source.state c.args.new_job.now) (g.S.Source.state c.compare_all.new.new_job) (λ other.
    IsOutcome manner c.args.number c.args.profile.now one other outcome))))
    (sym c.in-ByPages.is) c.compare_all.ensures.compared
