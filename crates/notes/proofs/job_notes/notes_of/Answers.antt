use Rattle.std.proofs.Common.{◌≡◌, [], subst, rules}
use Rattle.renderings.specs.Expected.{Renders}
use Rattle.notes.proofs.Rests.{notes_start}
use Rattle.notes.proofs.job_notes.notes_of.Goals as goal

pub returns : goal.returns
returns g c =
    let empty : c.new-told.result.items ≡ [] = search rules in
    subst (λ rendering.
    Renders rendering (g.S.Source.state c.args.reader.now) (g.S.Source.state c.render_job.new.reader) (g.W.Outlet.state c.args.writer.now)
    (g.W.Outlet.state c.render_job.new.writer) c.render_job.result)
    (notes_start (g.N.NoteText.note_text c.args.form.now) c.args.profile.now c.args.panel.now c.new-machine.result c.none-past.result
    c.new-told.result.items c.new-machine.ensures c.none-past.ensures empty)
    c.render_job.ensures
