use Rattle.std.proofs.Common.{IsFalse, map, take}
use Rattle.std.specs.List.{concat}
use Rattle.streams.specs.Outlet.{Adds}
use Rattle.requests.proofs.status.write_pieces.Given as goal

abbrev pub invariant-loop-piece : goal.invariant-loop-piece
invariant-loop-piece g l =
    IsFalse (g.E.Outlet.state l.outlet).failed
    × Adds (g.E.Outlet.state l.initial.outlet) (g.E.Outlet.state l.outlet) (concat (map (λ piece. piece.now) (take l.piece-index l.pieces)))
