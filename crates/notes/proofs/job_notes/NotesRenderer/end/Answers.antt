use Rattle.std.proofs.Common.{[], ◌≡◌, ◌∙◌, ap, sym, subst, true, Err, Ok}
use Rattle.pcl_lexer.specs.Reading.{Whole}
use Rattle.page_env.specs.Settings.{state_at}
use Rattle.page_machine.specs.Machine.{CarriesOn, end_of}
use Rattle.renderings.specs.Carriers.Rendering.{Ended}
use Rattle.notes.specs.Carriers.Rest.{notes_from}
use Rattle.notes.proofs.Rests.{refuses, takes, tells_end, tells_end_finding}
use Rattle.notes.proofs.job_notes.NotesRenderer.end.Goals as goal

pub returns-in_ok-tell_end-in-Ok-clause-rendered : goal.returns-in_ok-tell_end-in-Ok-clause-rendered
returns-in_ok-tell_end-in-Ok-clause-rendered g c =
    let notes = c.args.self.now in
    tells_end (g.N.NoteText.note_text notes.form.now) notes.machine notes.panel notes.past notes.closing notes.told.items
    (g.W.Outlet.state c.args._outlet.now) c.args.kept.now.items c.tell_end.new.text.items c.args.place c.page.result.now
    c.has_rows_left-is_short.result c.finish.new.sink c.tell_end.new.told.items
    (λ panel. state_at panel c.finish.new.self.page) c.page.ensures c.has_rows_left-is_short.ensures c.in-Ok.ensures.2
    c.in_ok-tell_end-in-Ok.ensures

pub returns-in_ok-end_at-in-Err-Found-clause-rendered : goal.returns-in_ok-end_at-in-Err-Found-clause-rendered
returns-in_ok-end_at-in-Err-Found-clause-rendered g c =
    let notes = c.args.self.now in
    let kept = c.args.kept.now.items in
    let outlet = g.W.Outlet.state c.args._outlet.now in
    let is = c.in-Err-Found.is ∙ ap Err c.in-Err-Found.field-0-is in
    let executed =
    subst (CarriesOn takes refuses (end_of notes.machine) true notes.closing c.finish.new.sink notes.machine c.finish.new.self) is
    c.finish.ensures in
    let ended = c.in_ok-end_at-in-Err-Found.ensures in
    subst
    (λ outcome.
    Ended (notes_from (g.N.NoteText.note_text notes.form.now) notes.machine notes.panel notes.past notes.closing.closed notes.told.items)
    (λ reading. reading ≡ Whole [] c.args.place) outlet outlet kept c.end_at.new.text.items (Ok outcome))
    (sym ended.outcome)
    (tells_end_finding (g.N.NoteText.note_text notes.form.now) notes.machine notes.panel notes.past notes.closing notes.told.items outlet
    kept c.end_at.new.text.items c.args.place c.finish.new.sink c.end_at.new.told.items c.in-Err-Found.finding executed.2 ended.tells)
