use Rattle.std.proofs.Common.{refl}
use Rattle.notes.proofs.Rests.{tells_fault}
use Rattle.notes.proofs.job_notes.NotesRenderer.fault.Goals as goal

pub returns-clause-rendered : goal.returns-clause-rendered
returns-clause-rendered g c =
    let notes = c.args.self.now in
    let kept = c.args._kept.now.items in
    tells_fault (g.N.NoteText.note_text notes.form.now) notes.machine notes.panel notes.past notes.closing notes.told.items
    (g.W.Outlet.state c.args._outlet.now) kept kept c.args.fault.place c.args.fault.cause refl c.of_fault.result c.of_fault.ensures
