use Rattle.std.proofs.Common.{◌≡◌, ◌+◌, ℕ, List, [], ◌++◌, true, false, length, refl, ap, sym, ◌∙◌, subst, arith, length-append}
use Rattle.pcl_lexer.specs.Lexing.State.{LexerState}
use Rattle.streams.specs.declared.error.Error.{Error}
use Rattle.renderings.specs.declared.outcome.Outcome.{Outcome}
use Rattle.renderings.specs.declared.render.JobRenderer.{JobRenderer}
use Rattle.renderings.specs.Carriers.Rendering.{RenderedTo, HasRendered}
use Rattle.renderings.specs.Carriers.Rendered.{IsCutOff, IsRendered, RendersOn}
use Rattle.renderings.proofs.Rendered.{rendered_piece, unrendered_piece}
use Rattle.renderings.proofs.Renderings.{rendered_fed, rendered_front}
use Rattle.renderings.proofs.render.JobRendererConsumer.piece.Goals as goal

pub returns-in_err-feed : goal.returns-in_err-feed
returns-in_err-feed g c = λ first bytes h.
    let piece = c.args.piece.now in
    let old = c.args.self.now in
    let front =
    rendered_front (g.R.Renderer.rendering first.0.renderer.now) (g.W.Outlet.state first.1) bytes old.lexer
    (g.R.Renderer.rendering old.renderer.now) (g.W.Outlet.state c.args.outlet.now) [] h.rendered
    (bytes ++ piece) (piece, refl, λ e. let both : true ≡ false = sym e ∙ h.open_input in absurd cc) in
    let Mine : Type 0 = JobRenderer g.row.R.Denot g.row.A.Denot × g.row.W.Denot in
    let Goes : Mine → List ℕ → Mine → Type 0 =
    λ one bytes now. RendersOn (g.R.Renderer.rendering one.0.renderer.now) (g.W.Outlet.state one.1) (g.R.Renderer.is_in now.0.renderer.now)
    bytes (g.R.Renderer.rendering now.0.renderer.now) (g.W.Outlet.state now.1) now.0.kept.items one.0.total now.0.total now.0.lexer in
    let RendersItem : Mine → Outcome → List (List ℕ) → Mine → Type 0 =
    λ one outcome pieces now.
    IsRendered (g.R.Renderer.rendering one.0.renderer.now) (g.W.Outlet.state one.1) pieces (g.W.Outlet.state now.1) outcome in
    let Stops : Mine → Error → List ℕ → Mine → Type 0 =
    λ one error bytes now.
    IsCutOff (g.R.Renderer.rendering one.0.renderer.now) (g.W.Outlet.state one.1) bytes (g.W.Outlet.state now.1) error in
    unrendered_piece Goes RendersItem Stops first (record old { lexer = c.feed.new.self }, c.args.outlet.now) bytes piece
    c.from_residual.result c.from_residual.ensures.1 (record { front = front; status = h.working })

pub returns : goal.returns
returns g c = λ first bytes h.
    let piece = c.args.piece.now in
    let old = c.args.self.now in
    let fed = c.feed.new.self in
    let went = c.render_decided.ensures in
    let new = c.render_decided.new.self in
    let start = g.W.Outlet.state first.1 in
    let fed_is = c.in_ok-feed.ensures.ok in
    let not_ended : fed.ended ≡ false = ap (λ (s : LexerState). s.ended) fed_is ∙ h.open_input in
    let place : fed.place + length fed.rest ≡ old.lexer.place + length (old.lexer.rest ++ piece) =
    ap (λ (s : LexerState). s.place + length s.rest) fed_is in
    let rendered =
    subst
    (HasRendered (g.R.Renderer.rendering first.0.renderer.now) start (bytes ++ piece) fed (g.R.Renderer.rendering old.renderer.now)
    (g.W.Outlet.state c.args.outlet.now))
    (sym h.nothing_kept)
    (rendered_fed (g.R.Renderer.rendering first.0.renderer.now) start bytes old.lexer (g.R.Renderer.rendering old.renderer.now)
    (g.W.Outlet.state c.args.outlet.now) [] h.rendered fed piece c.in_ok-feed.ensures.reads) in
    let total : old.total + length piece ≡ length (bytes ++ piece) = omega (arith, h.total_is, h.begun, length-append bytes piece) in
    let Mine : Type 0 = JobRenderer g.row.R.Denot g.row.A.Denot × g.row.W.Denot in
    let Goes : Mine → List ℕ → Mine → Type 0 =
    λ one bytes now. RendersOn (g.R.Renderer.rendering one.0.renderer.now) (g.W.Outlet.state one.1) (g.R.Renderer.is_in now.0.renderer.now)
    bytes (g.R.Renderer.rendering now.0.renderer.now) (g.W.Outlet.state now.1) now.0.kept.items one.0.total now.0.total now.0.lexer in
    let RendersItem : Mine → Outcome → List (List ℕ) → Mine → Type 0 =
    λ one outcome pieces now.
    IsRendered (g.R.Renderer.rendering one.0.renderer.now) (g.W.Outlet.state one.1) pieces (g.W.Outlet.state now.1) outcome in
    let Stops : Mine → Error → List ℕ → Mine → Type 0 =
    λ one error bytes now.
    IsCutOff (g.R.Renderer.rendering one.0.renderer.now) (g.W.Outlet.state one.1) bytes (g.W.Outlet.state now.1) error in
    rendered_piece Goes RendersItem Stops first (new, c.render_decided.new.outlet) (g.R.Renderer.rendering first.0.renderer.now) start
    new.lexer (g.R.Renderer.rendering new.renderer.now) (g.W.Outlet.state c.render_decided.new.outlet)
    (g.R.Renderer.is_in new.renderer.now) new.kept.items first.0.total new.total bytes piece (λ t. t) (λ outcome pieces t. t) (λ error t. t)
    h.begun (omega (arith, went.total, h.total_is, length-append bytes piece)) (went.read.ended ∙ not_ended)
    (omega (arith, went.read.place, place, length-append old.lexer.rest piece, h.fed, went.total)) c.render_decided.result
    (subst
    (λ e. RenderedTo (g.R.Renderer.rendering first.0.renderer.now) start e (bytes ++ piece) new.lexer
    (g.R.Renderer.rendering new.renderer.now) (g.W.Outlet.state c.render_decided.new.outlet) [] c.render_decided.result)
    not_ended
    (went.came (g.R.Renderer.rendering first.0.renderer.now) start (bytes ++ piece) rendered total))
    went.kept (λ is. ((went.read.goes_on is).1, (went.read.goes_on is).2)) went.status went.err
