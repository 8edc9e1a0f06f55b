use Rattle.std.proofs.Common.{subst, sym}
use Rattle.requests.specs.declared.status.Status.{Status}
use Rattle.compare_command.specs.Compare.{WritesFound}
use Rattle.compare_command.specs.Outcomes.{status_by}
use Rattle.compare_command.proofs.Compared.{written_whole}
use Rattle.compare_command.proofs.command.write_whole.Goals as goal

pub returns-in-Ok : goal.returns-in-Ok
returns-in-Ok g c =
    subst
    (λ (status : Status). WritesFound c.args.text.now (status_by c.args.same) status (g.O.Outlet.state c.args.stdout.now)
    (g.O.Outlet.state c.write_text.new.outlet))
    (sym c.status_by.ensures)
    (written_whole c.args.same c.args.text.now _ _ c.in-Ok.ensures.text c.in-Ok.ensures.status)

pub returns-in-Err : goal.returns-in-Err
returns-in-Err g c = (c.in-Err.ensures.status, c.in-Err.ensures.text.front)
