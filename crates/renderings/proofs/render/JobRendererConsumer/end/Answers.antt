use Rattle.std.proofs.Common.{◌≡◌, [], true, Some, Ok, ap, sym, subst, arith}
use Rattle.pcl_lexer.specs.Lexing.State.{LexerState}
use Rattle.renderings.specs.Carriers.Rendering.{RenderedTo, HasRendered}
use Rattle.renderings.proofs.Rendered.{rendered_end}
use Rattle.renderings.proofs.Renderings.{rendered_to_end}
use Rattle.renderings.proofs.render.JobRendererConsumer.end.Goals as goal

pub returns : goal.returns
returns g c = λ first bytes h pieces spelled.
    let old = c.args.self.now in
    let fed = c.end_input.new.self in
    let went = c.in_ok-outcome.ensures in
    let new = c.render_decided.new.self in
    let start = g.W.Outlet.state first.1 in
    let first_rendering = g.R.Renderer.rendering first.0.renderer.now in
    let ended : fed.ended ≡ true = ap (λ (s : LexerState). s.ended) c.end_input.ensures.ended in
    let rendered =
    subst (HasRendered first_rendering start bytes fed (g.R.Renderer.rendering old.renderer.now) (g.W.Outlet.state c.args.outlet.now))
    (sym h.nothing_kept)
    (rendered_to_end first_rendering start bytes old.lexer (g.R.Renderer.rendering old.renderer.now) (g.W.Outlet.state c.args.outlet.now)
    [] h.rendered fed c.end_input.ensures.reads) in
    let came =
    subst
    (λ e. RenderedTo first_rendering start e bytes new.lexer (g.R.Renderer.rendering new.renderer.now)
    (g.W.Outlet.state c.render_decided.new.outlet) [] (Ok (Some c.in-Some.outcome)))
    ended
    (subst
    (λ o. RenderedTo first_rendering start fed.ended bytes new.lexer (g.R.Renderer.rendering new.renderer.now)
    (g.W.Outlet.state c.render_decided.new.outlet) [] (Ok o))
    c.in-Some.is
    (went.came first_rendering start bytes rendered (omega (arith, h.total_is, h.begun)))) in
    rendered_end first_rendering start
    (g.W.Outlet.state c.render_decided.new.outlet) bytes c.in-Some.outcome came went.status pieces spelled
