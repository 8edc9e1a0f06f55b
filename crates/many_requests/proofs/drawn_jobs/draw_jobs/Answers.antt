use Rattle.std.proofs.Common.{◌≡◌, map, sym}
use Rattle.std.proofs.lemmas.Simd.{map-map}
use Rattle.compare_command.specs.Compare.{asked_for}
use Rattle.named_inputs.specs.Texts.{text_named}
use Rattle.many_requests.proofs.DrawnLeft.{drawn_left}
use Rattle.many_requests.proofs.drawn_jobs.draw_jobs.Goals as goal

pub returns : goal.returns
returns g c =
    let words = c.args.asked.now.printers.now in
    let known : map (λ word. text_named word.now) words ≡ map text_named (map (λ word. word.now) words) =
    sym (map-map text_named (λ word. word.now) words) in
    drawn_left (map (λ word. text_named word.now) words) _ _ _ _ _ (asked_for c.args.asked.now) _ _ c.args.path.now _
    c.compare_drawn-drawn.result c.end_drawn-status.result _ _ c.end_drawn-status.new.out c.args.used.now _ _ _
    (g.O.Outlet.state c.args.stdout.now) (g.O.Outlet.state c.compare_drawn-drawn.new.stdout)
    (g.E.Outlet.state c.args.stderr.now) (g.E.Outlet.state c.compare_drawn-drawn.new.stderr) known c.new-jobs.ensures
    c.new-texts.ensures.given c.new-outlet.ensures.file c.compare_drawn-drawn.ensures.left c.end_drawn-status.ensures
    c.new-texts.ensures.named c.compare_drawn-drawn.ensures.named c.end.ensures c.tell.ensures c.new-outlet.ensures.path
    c.written.ensures
