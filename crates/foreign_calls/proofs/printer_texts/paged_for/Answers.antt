use Rattle.std.proofs.Common.{IfOk, Some, ap, subst}
use Rattle.device_profile.specs.declared.panel.Panel.{Panel}
use Rattle.renderings.specs.Expected.{pages_rendering}
use Rattle.foreign_calls.specs.Texts.{IsWrittenWithLine}
use Rattle.foreign_calls.proofs.Known.{told_with_line}
use Rattle.foreign_calls.proofs.printer_texts.paged_for.Goals as goal

pub returns-in-Ok-clause-paged : goal.returns-in-Ok-clause-paged
returns-in-Ok-clause-paged g c =
    let printer = c.args.printer.now in
    subst (λ (panel : Panel). IfOk c.with_line.result (IsWrittenWithLine (pages_rendering printer panel) c.args.job.now))
    c.first_panel-panel.ensures.value
    (told_with_line (pages_rendering printer c.first_panel-panel.result) _ _ _ _ _ c.in-Ok.outcome c.into_bytes.result.items
    c.with_line.result c.in-Ok.ensures (ap (λ inner. Some inner.now) c.new-source.ensures.inner) c.new-text.ensures.bytes
    c.into_bytes.ensures c.with_line.ensures.told)
