use Rattle.std.proofs.Common.{subst}
use Rattle.compare_command.specs.Compare.{WritesFound}
use Rattle.compare_command.specs.Outcomes.{same_counts, status_by}
use Rattle.compare_command.specs.Telling.{HowTold, found_text}
use Rattle.compare_command.proofs.command.write_found.Goals as goal

pub returns : goal.returns
returns g c =
    let found = c.args.found.now in
    subst
    (λ (telling : HowTold). WritesFound (found_text telling found.number found.outcome)
    (status_by (same_counts found.outcome)) c.write_told.result (g.O.Outlet.state c.args.stdout.now)
    (g.O.Outlet.state c.write_told.new.stdout))
    c.telling-telling.ensures c.write_told.ensures
