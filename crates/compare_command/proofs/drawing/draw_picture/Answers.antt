use Rattle.std.proofs.Common.{List, Option, Some, ap, map, option_map, refl, subst, sym, ℕ, false}
use Rattle.compare_command.specs.Compare.{asked_for}
use Rattle.compare_command.specs.Drawing.{DrawsPicture}
use Rattle.compare_command.proofs.drawing.draw_picture.Goals as goal

pub returns-in-Some : goal.returns-in-Some
returns-in-Some g c =
    subst
    (λ (text : Option (List ℕ)). DrawsPicture text (asked_for c.args.asked.now) (map (λ name. name.items) c.args.names.now)
    c.args.found.now c.draw_text.result (g.D.Outlet.state c.args.out.now) (g.D.Outlet.state c.draw_text.new.out)
    (g.O.Outlet.state c.args.stdout.now) (g.O.Outlet.state c.draw_text.new.stdout))
    (sym (ap (option_map (λ text. text.items)) c.in-Some.is))
    (subst
    (λ (text : List ℕ). DrawsPicture (Some text) (asked_for c.args.asked.now) (map (λ name. name.items) c.args.names.now)
    c.args.found.now c.draw_text.result (g.D.Outlet.state c.args.out.now) (g.D.Outlet.state c.draw_text.new.out)
    (g.O.Outlet.state c.args.stdout.now) (g.O.Outlet.state c.draw_text.new.stdout))
    c.as_slice.ensures.value c.draw_text.ensures)

pub returns-in-None : goal.returns-in-None
returns-in-None g c =
    subst
    (λ (text : Option (List ℕ)). DrawsPicture text (asked_for c.args.asked.now) (map (λ name. name.items) c.args.names.now)
    c.args.found.now (record { status = c.write_found-status.result; is_drawn = false }) (g.D.Outlet.state c.args.out.now)
    (g.D.Outlet.state c.args.out.now) (g.O.Outlet.state c.args.stdout.now) (g.O.Outlet.state c.write_found-status.new.stdout))
    (sym (ap (option_map (λ text. text.items)) c.in-None.is)) (refl, refl, c.write_found-status.ensures)
