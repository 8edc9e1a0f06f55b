use Rattle.std.proofs.Common.{[]}
use Rattle.renderings.proofs.Renderings.{came_cut, came_err, came_written}
use Rattle.renderings.proofs.render.JobRenderer.render_decided.Goals as goal

pub returns-in_err-write_kept-clause-came : goal.returns-in_err-write_kept-clause-came
returns-in_err-write_kept-clause-came g c = λ first start bytes h total.
    let lexer = c.render_items.new.lexer in
    let rendering = g.R.Renderer.rendering c.render_items.new.renderer in
    came_err first start c.args.self.now.lexer.ended bytes lexer rendering (g.W.Outlet.state c.write_kept.new.outlet)
    [] c.from_residual-in_err-write_kept.result c.from_residual-in_err-write_kept.ensures.0
    (came_cut first start c.args.self.now.lexer.ended bytes lexer rendering (g.W.Outlet.state c.render_items.new.outlet)
    c.render_items.new.kept.items (g.W.Outlet.state c.write_kept.new.outlet) c.in_err-write_kept.ensures.text.front c.in_ok-came.came
    (c.in_ok-came.ensures.came first start bytes h total))

pub returns-clause-came : goal.returns-clause-came
returns-clause-came g c = λ first start bytes h total.
    came_written first start c.args.self.now.lexer.ended bytes c.render_items.new.lexer (g.R.Renderer.rendering c.render_items.new.renderer)
    (g.W.Outlet.state c.render_items.new.outlet) c.render_items.new.kept.items (g.W.Outlet.state c.write_kept.new.outlet)
    (c.in_ok-write_kept.ensures.text.whole c.in_ok-write_kept.ensures.status) c.in_ok-came.came
    (c.in_ok-came.ensures.came first start bytes h total)
