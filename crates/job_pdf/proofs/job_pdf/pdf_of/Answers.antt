use Rattle.std.proofs.Common.{subst}
use Rattle.renderings.specs.Expected.{Renders}
use Rattle.job_pdf.specs.Plan.{plan_of}
use Rattle.job_pdf.proofs.Drawings.{drawing_start}
use Rattle.job_pdf.proofs.job_pdf.pdf_of.Goals as goal

pub returns : goal.returns
returns g c =
    subst (λ rendering.
    Renders rendering (g.S.Source.state c.args.reader.now) (g.S.Source.state c.render_job.new.reader) (g.W.Outlet.state c.args.writer.now)
    (g.W.Outlet.state c.render_job.new.writer) c.render_job.result)
    (drawing_start (plan_of c.args.wanted.now) c.args.profile.now c.args.panel.now c.new.result c.new-2.result c.new.ensures
    c.new-2.ensures)
    c.render_job.ensures
