use Rattle.std.proofs.Common.{Some, inr, map, refl, subst}
use Rattle.streams.specs.Outlet.{OutletState}
use Rattle.compare_command.specs.Compare.{asked_for}
use Rattle.compare_command.specs.Drawing.{DrawsPicture}
use Rattle.compare_command.proofs.Drawings.{not_created, was_created}
use Rattle.compare_command.proofs.drawing.draw_text.Goals as goal

pub returns-in-Ok : goal.returns-in-Ok
returns-in-Ok g c =
    subst
    (λ (file : OutletState). DrawsPicture (Some c.args.text.now) (asked_for c.args.asked.now)
    (map (λ name. name.items) c.args.names.now) c.args.found.now c.draw_created.result file
    (g.D.Outlet.state c.draw_created.new.out) (g.O.Outlet.state c.args.stdout.now) (g.O.Outlet.state c.draw_created.new.stdout))
    (was_created _ _ c.requires.out c.in-Ok.ensures.state) c.draw_created.ensures

pub returns-in-Err : goal.returns-in-Err
returns-in-Err g c =
    inr (refl, not_created c.in-Err.status c.args.text.now _ _ c.requires.out c.in-Err.ensures.err c.in-Err.ensures.state, refl)
