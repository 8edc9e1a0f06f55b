use Rattle.std.proofs.Common.{subst}
use Rattle.renderings.specs.Expected.{Renders}
use Rattle.renderings.proofs.PageRenderings.{pages_start}
use Rattle.renderings.proofs.pages.pages_of.Goals as goal

pub returns : goal.returns
returns g c =
    subst (λ rendering.
    Renders rendering (g.S.Source.state c.args.reader.now) (g.S.Source.state c.render_job.new.reader) (g.W.Outlet.state c.args.writer.now)
    (g.W.Outlet.state c.render_job.new.writer) c.render_job.result)
    (pages_start c.args.profile.now c.args.panel.now c.new.result c.new.ensures) c.render_job.ensures
