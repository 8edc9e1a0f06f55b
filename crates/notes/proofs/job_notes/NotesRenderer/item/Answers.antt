use Rattle.std.proofs.Common.{◌≡◌, ◌∙◌, ap, sym, subst, refl, false, Err, Ok}
use Rattle.pcl_items.specs.Items.{at, view}
use Rattle.page_machine.specs.Machine.{CarriesOn, item_of}
use Rattle.streams.specs.declared.error.Error.TheVariants.{Memory}
use Rattle.renderings.specs.declared.outcome.Outcome.TheVariants.{Fail}
use Rattle.verdict.specs.declared.reason.Reason.TheVariants.{Finding as FindingOfRun}
use Rattle.renderings.specs.Carriers.Rendering.{Ended, StartsWith}
use Rattle.notes.specs.Notes.{long_run, noted_outcome}
use Rattle.notes.specs.Carriers.Rest.{WritesNotes, notes_from}
use Rattle.notes.proofs.Rests.{none_written, refuses, takes, tells_finding, tells_item}
use Rattle.notes.proofs.ToldNotes.{WritesNotes-then}
use Rattle.notes.proofs.job_notes.NotesRenderer.item.Goals as goal

pub returns-in_err-tell_item-clause-rendered : goal.returns-in_err-tell_item-clause-rendered
returns-in_err-tell_item-clause-rendered g c =
    let notes = c.args.self.now in
    none_written
    (notes_from (g.N.NoteText.note_text notes.form.now) notes.machine notes.panel notes.past notes.closing.closed notes.told.items)
    (notes_from
    (g.N.NoteText.note_text notes.form.now) notes.machine notes.panel notes.past notes.closing.closed c.tell_item.new.told.items)
    (at c.args.place (view c.args.item.now)) (g.W.Outlet.state c.args._outlet.now) c.args.kept.now.items c.tell_item.new.text.items
    c.from_residual.result c.from_residual.ensures.0

pub returns-in_err-tell_behind-in-Ok-clause-rendered : goal.returns-in_err-tell_behind-in-Ok-clause-rendered
returns-in_err-tell_behind-in-Ok-clause-rendered g c =
    let notes = c.args.self.now in
    none_written
    (notes_from (g.N.NoteText.note_text notes.form.now) notes.machine notes.panel notes.past notes.closing.closed notes.told.items)
    (notes_from
    (g.N.NoteText.note_text notes.form.now) c.step.new.self notes.panel notes.past c.step.new.sink.closed c.tell_behind.new.told.items)
    (at c.args.place (view c.args.item.now)) (g.W.Outlet.state c.args._outlet.now) c.args.kept.now.items c.tell_behind.new.text.items
    c.from_residual-in_err-tell_behind-in-Ok.result c.from_residual-in_err-tell_behind-in-Ok.ensures.0

pub returns-in_ok-tell_behind-in-Ok-clause-rendered : goal.returns-in_ok-tell_behind-in-Ok-clause-rendered
returns-in_ok-tell_behind-in-Ok-clause-rendered g c =
    let notes = c.args.self.now in
    tells_item (g.N.NoteText.note_text notes.form.now) notes.machine notes.panel notes.past notes.closing notes.told.items
    (g.W.Outlet.state c.args._outlet.now) c.args.kept.now.items c.tell_behind.new.text.items
    (at c.args.place (view c.args.item.now)) c.step.new.self c.step.new.sink c.behind-self.result c.state_before_at-before.result
    c.page-page.result.now c.tell_item.new.told.items c.tell_behind.new.told.items c.tell_item.new.text.items
    c.in-Ok.ensures.1 c.in-Ok.ensures.2 c.in_ok-tell_item.ensures c.state_before_at-before.ensures c.page-page.ensures
    c.in_ok-tell_behind-in-Ok.ensures c.behind-self.ensures

pub returns-in_err-end_at-in-Err-Found-clause-rendered : goal.returns-in_err-end_at-in-Err-Found-clause-rendered
returns-in_err-end_at-in-Err-Found-clause-rendered g c =
    let notes = c.args.self.now in
    none_written
    (notes_from (g.N.NoteText.note_text notes.form.now) notes.machine notes.panel notes.past notes.closing.closed notes.told.items)
    (notes_from
    (g.N.NoteText.note_text notes.form.now) c.step.new.self notes.panel notes.past c.step.new.sink.closed c.end_at.new.told.items)
    (at c.args.place (view c.args.item.now)) (g.W.Outlet.state c.args._outlet.now) c.args.kept.now.items c.end_at.new.text.items
    c.from_residual-in_err-end_at-in-Err-Found.result c.from_residual-in_err-end_at-in-Err-Found.ensures.0

pub returns-in_ok-end_at-in-Err-Found-clause-rendered : goal.returns-in_ok-end_at-in-Err-Found-clause-rendered
returns-in_ok-end_at-in-Err-Found-clause-rendered g c =
    let notes = c.args.self.now in
    let x = at c.args.place (view c.args.item.now) in
    let kept = c.args.kept.now.items in
    let outlet = g.W.Outlet.state c.args._outlet.now in
    let is = c.in-Err-Found.is ∙ ap Err c.in-Err-Found.field-0-is in
    let executed =
    subst
    (CarriesOn takes refuses
    (item_of notes.machine (view c.args.item.now)) false notes.closing c.step.new.sink notes.machine c.step.new.self)
    is c.step.ensures in
    let ended = c.in_ok-end_at-in-Err-Found.ensures in
    let found = c.in-Err-Found.finding-is in
    let outcome_is =
    subst
    (λ finding. c.in_ok-end_at-in-Err-Found.field-0 ≡ noted_outcome (Fail c.args.place 1 (FindingOfRun finding))) found ended.outcome in
    let tells =
    subst
    (λ finding. WritesNotes (g.N.NoteText.note_text notes.form.now) c.tell_item.new.told.items c.end_at.new.told.items
    c.tell_item.new.text.items c.end_at.new.text.items (long_run (Fail c.args.place 1 (FindingOfRun finding))))
    found ended.tells in
    subst
    (λ outcome.
    Ended (notes_from (g.N.NoteText.note_text notes.form.now) notes.machine notes.panel notes.past notes.closing.closed notes.told.items)
    (StartsWith x) outlet outlet kept c.end_at.new.text.items (Ok outcome))
    (sym outcome_is)
    (tells_finding (g.N.NoteText.note_text notes.form.now) notes.machine notes.panel notes.past notes.closing notes.told.items outlet kept
    c.end_at.new.text.items x c.step.new.sink c.end_at.new.told.items c.in-Err-Found.finding executed.2
    (WritesNotes-then c.in_ok-tell_item.ensures tells))

pub returns-in-Err-Memory-clause-rendered : goal.returns-in-Err-Memory-clause-rendered
returns-in-Err-Memory-clause-rendered g c =
    let notes = c.args.self.now in
    none_written
    (notes_from (g.N.NoteText.note_text notes.form.now) notes.machine notes.panel notes.past notes.closing.closed notes.told.items)
    (notes_from
    (g.N.NoteText.note_text notes.form.now) c.step.new.self notes.panel notes.past c.step.new.sink.closed c.tell_item.new.told.items)
    (at c.args.place (view c.args.item.now)) (g.W.Outlet.state c.args._outlet.now) c.args.kept.now.items c.tell_item.new.text.items
    (Err Memory) refl
