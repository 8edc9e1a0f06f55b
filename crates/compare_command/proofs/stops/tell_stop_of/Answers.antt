use Rattle.std.proofs.Common.{subst, sym}
use Rattle.streams.specs.declared.error.Error.{Error}
use Rattle.compare_command.specs.Compare.{StopsAt}
use Rattle.compare_command.proofs.Compared.{error_stops}
use Rattle.compare_command.proofs.stops.tell_stop_of.Goals as goal

pub returns-in-Read : goal.returns-in-Read
returns-in-Read g c =
    subst
    (λ (error : Error). StopsAt c.args.manner c.args.name.now error c.tell_cause.result (g.E.Outlet.state c.args.stderr.now)
    (g.E.Outlet.state c.tell_cause.new.stderr))
    (sym c.in-Read.is) c.tell_cause.ensures

pub returns-in-Memory : goal.returns-in-Memory
returns-in-Memory g c =
    subst
    (λ (error : Error). StopsAt c.args.manner c.args.name.now error c.tell_of_memory.result (g.E.Outlet.state c.args.stderr.now)
    (g.E.Outlet.state c.tell_of_memory.new.stderr))
    (sym c.in-Memory.is) c.tell_of_memory.ensures

pub returns-in_default : goal.returns-in_default
returns-in_default g c =
    error_stops c.args.manner c.args.name.now c.args.error (g.E.Outlet.state c.args.stderr.now) c.requires.error c.in_default.not-Read
    c.in_default.not-Memory
