use Rattle.std.proofs.Common.{Some, ap}
use Rattle.renderings.specs.Pins.{pinned_rendering}
use Rattle.foreign_calls.proofs.Known.{written_known}
use Rattle.foreign_calls.proofs.printer_texts.pinned_to.Goals as goal

pub returns-in-Ok-clause-pinned : goal.returns-in-Ok-clause-pinned
returns-in-Ok-clause-pinned g c = (
  c.in-Ok.outcome,
  written_known (pinned_rendering c.args.printer.now c.args.panel.now) _ _ _ _ _ c.in-Ok.outcome c.into_bytes.result.items c.in-Ok.ensures
      (ap (λ inner. Some inner.now) c.new-source.ensures.inner) c.new-text.ensures.bytes c.into_bytes.ensures,
  c.outcome_row.ensures,
)
