use Rattle.std.proofs.Common.{IsFalse, length}
use Rattle.streams.proofs.OutletFacts.{AddsBefore}
use Rattle.streams.proofs.writing.write_text.Given as goal

abbrev pub invariant-loop-rest : goal.invariant-loop-rest
invariant-loop-rest g l =
    IsFalse (g.W.Outlet.state l.outlet).failed × AddsBefore (g.W.Outlet.state l.initial.outlet) (g.W.Outlet.state l.outlet) l.text l.rest

abbrev pub decreases-loop-rest : goal.decreases-loop-rest
decreases-loop-rest g l = length l.rest
