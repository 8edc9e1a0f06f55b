use Rattle.std.proofs.Common.{IfOk, Some, ap, subst}
use Rattle.device_profile.specs.declared.panel.Panel.{Panel}
use Rattle.device_profile.specs.Printer.{Printer, first_panel}
use Rattle.notes.specs.Note.{note_line}
use Rattle.notes.specs.Notes.{notes_rendering}
use Rattle.renderings.specs.Expected.{Rendering}
use Rattle.foreign_calls.specs.Texts.{IsWrittenWithLine}
use Rattle.foreign_calls.proofs.Known.{told_with_line}
use Rattle.foreign_calls.proofs.printer_texts.noted_for.Goals as goal

pub returns-in-Ok-clause-noted : goal.returns-in-Ok-clause-noted
returns-in-Ok-clause-noted g c =
    let limited = c.limit_items.new.self in
    let IsTold : Rendering → Type 0 = λ rendering. IfOk c.with_line.result (IsWrittenWithLine rendering c.args.job.now) in
    subst (λ (printer : Printer). IsTold (notes_rendering note_line printer (first_panel printer))) c.limit_items.ensures
    (subst (λ (panel : Panel). IsTold (notes_rendering note_line limited panel)) c.first_panel-panel.ensures.value
    (told_with_line (notes_rendering note_line limited c.first_panel-panel.result) _ _ _ _ _ c.in-Ok.outcome c.into_bytes.result.items
    c.with_line.result c.in-Ok.ensures (ap (λ inner. Some inner.now) c.new-source.ensures.inner) c.new-text.ensures.bytes
    c.into_bytes.ensures c.with_line.ensures.told))
