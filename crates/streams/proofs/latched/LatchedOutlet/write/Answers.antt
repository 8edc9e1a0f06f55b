use Rattle.std.proofs.Common.{rules, refl}
use Rattle.std.specs.List.{concat}
use Rattle.streams.specs.Outlet.{OutletState}
use Rattle.streams.proofs.OutletFacts.{takes_ok, takes_none}
use Rattle.streams.proofs.latched.LatchedOutlet.write.Goals.{in-Ok+then-count-eq0, in-Ok+else-count-eq0, in-Err}
use Rattle.streams.proofs.latched.LatchedOutlet.write.Goals as goal

pub returns-clause-taken : goal.returns-clause-taken
returns-clause-taken g c =
    let pieces = c.self.inside.taken.pieces in
    let inside = c.match-result.self-inside in
    let more = inside.taken.pieces in
    let old : OutletState =
    record { taken = c.args.self.now.taken; contents = g.T.Write.contents c.args.self.now.inner; failed = c.args.self.now.has_failed } in
    let new : OutletState = record { taken = concat more; contents = g.T.Write.contents inside.inner; failed = c.match-result.self } in
    elim c.match-result.branch [
      | in-Ok+then-count-eq0 w ↦
          takes_ok old new c.write-result.result c.args.piece.now w.in-Ok.count pieces more w.in-Ok.is (search rules) refl (search rules)
          (search rules) (search rules)
      | in-Ok+else-count-eq0 w ↦
          takes_ok old new c.write-result.result c.args.piece.now w.in-Ok.count pieces more w.in-Ok.is (search rules) refl (search rules)
          (search rules) (search rules)
      | in-Err w ↦
          takes_none old new c.write-result.result c.args.piece.now w.in-Err.field-0 w.in-Err.is (search rules)
          (search rules) (search rules)
    ]
