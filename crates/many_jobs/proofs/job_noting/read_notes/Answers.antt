use Rattle.std.proofs.Common.{Ok, Err, ℕ, List, subst, sym}
use Rattle.streams.specs.declared.error.Error.TheVariants.{Read}
use Rattle.many_jobs.specs.Asked.{told_by}
use Rattle.named_inputs.specs.KeptText.{kept_error}
use Rattle.many_jobs.specs.JobNoting.{AreRightNotes}
use Rattle.many_jobs.specs.NoteReports.{told_note}
use Rattle.many_jobs.proofs.JobNoting.{notes_had, notes_lost, notes_stopped}
use Rattle.many_jobs.proofs.job_noting.read_notes.Goals as goal

pub returns-in-Ok-Done : goal.returns-in-Ok-Done
returns-in-Ok-Done g c =
    let telling = told_by c.args.telling.now in
    let start = g.S.Source.state c.args.job.now in
    let after = g.S.Source.state c.notes_of.new.reader in
    let text = c.into_bytes.result.items in
    let done = rw c.in-Ok-Done.field-0-is at c.in-Ok-Done.ensures in
    subst
    (λ (name : List ℕ).
    AreRightNotes (told_note telling (record { job = c.args.name.now; printer = name })) c.args.printer.now start after (Ok text))
    c.first_name.ensures
    (notes_had (told_note telling (record { job = c.args.name.now; printer = c.first_name.result.now })) c.args.printer.now
    c.first_panel-panel.result c.first_panel-panel.ensures.value start after _ _
    text done c.new-text.ensures.bytes c.into_bytes.ensures)

pub returns-in-Ok-Fail : goal.returns-in-Ok-Fail
returns-in-Ok-Fail g c =
    let telling = told_by c.args.telling.now in
    let start = g.S.Source.state c.args.job.now in
    let after = g.S.Source.state c.notes_of.new.reader in
    let fails = rw c.in-Ok-Fail.field-0-is at c.in-Ok-Fail.ensures in
    subst
    (λ (name : List ℕ).
    AreRightNotes (told_note telling (record { job = c.args.name.now; printer = name })) c.args.printer.now start after (Err Read))
    c.first_name.ensures
    (notes_lost (told_note telling (record { job = c.args.name.now; printer = c.first_name.result.now })) c.args.printer.now
    c.first_panel-panel.result c.first_panel-panel.ensures.value start after _ _
    _ _ _ fails c.new-text.ensures.bytes)

pub returns-in-Err : goal.returns-in-Err
returns-in-Err g c =
    let telling = told_by c.args.telling.now in
    let start = g.S.Source.state c.args.job.now in
    let after = g.S.Source.state c.notes_of.new.reader in
    let write = told_note telling (record { job = c.args.name.now; printer = c.first_name.result.now }) in
    subst
    (λ (name : List ℕ).
    AreRightNotes (told_note telling (record { job = c.args.name.now; printer = name })) c.args.printer.now start after
    (Err c.kept_error.result))
    c.first_name.ensures
    (subst (λ error. AreRightNotes write c.args.printer.now start after (Err error)) (sym c.kept_error.ensures)
    (notes_stopped write c.args.printer.now c.first_panel-panel.result c.first_panel-panel.ensures.value start after _ _
    _ c.in-Err.ensures))
