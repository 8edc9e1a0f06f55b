use Rattle.std.proofs.Common.{subst, sym}
use Rattle.requests.specs.declared.status.Status.TheVariants.{Pass}
use Rattle.subcommands.specs.JobTexts.{LeavesLine}
use Rattle.subcommands.proofs.Leaves.{Stays-none}
use Rattle.subcommands.proofs.outcome.end_by_outcome.Goals as goal

pub returns-in-None-clause-line : goal.returns-in-None-clause-line
returns-in-None-clause-line g c =
    let start = g.O.Outlet.state c.args.stdout.now in
    subst (λ outcome. LeavesLine outcome Pass start start) (sym c.in-None.ensures) (Stays-none start)

pub returns-in-Some-clause-line : goal.returns-in-Some-clause-line
returns-in-Some-clause-line g c =
    let start = g.O.Outlet.state c.args.stdout.now in
    let end = g.O.Outlet.state c.write_failure.new.stdout in
    subst (λ outcome. LeavesLine outcome c.write_failure.result start end) (sym c.in-Some.ensures) c.write_failure.ensures.line
