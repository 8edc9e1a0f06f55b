use Rattle.std.proofs.Common.{List, Option, inl, inr, map, refl, subst, ℕ}
use Rattle.compare_command.specs.Compare.{asked_for}
use Rattle.compare_command.specs.Drawing.{DrawsPicture}
use Rattle.compare_command.proofs.drawing.draw_found.Goals as goal

pub returns-in-Ok : goal.returns-in-Ok
returns-in-Ok g c =
    inl
    (subst
    (λ (picture : Option (List ℕ)). DrawsPicture picture (asked_for c.args.asked.now) (map (λ name. name.items) c.args.names.now)
    c.args.found.now c.draw_picture.result (g.D.Outlet.state c.args.out.now) (g.D.Outlet.state c.draw_picture.new.out)
    (g.O.Outlet.state c.args.stdout.now) (g.O.Outlet.state c.draw_picture.new.stdout))
    c.in-Ok.ensures c.draw_picture.ensures)

pub returns-in-Err : goal.returns-in-Err
returns-in-Err g c = inr (refl, refl, refl)
