use Rattle.std.proofs.Common.{List, subst, ℕ}
use Rattle.compare_command.specs.Compare.{StopsAt}
use Rattle.compare_command.proofs.stops.tell_stop.Goals as goal

pub returns : goal.returns
returns g c =
    subst
    (λ (name : List ℕ). StopsAt c.args.manner name c.args.stop.now.error c.tell_stop_of.result (g.E.Outlet.state c.args.stderr.now)
    (g.E.Outlet.state c.tell_stop_of.new.stderr))
    c.name_by-name.ensures c.tell_stop_of.ensures
