use Rattle.std.proofs.Common.{Some, ap}
use Rattle.renderings.specs.Expected.{plain_rendering}
use Rattle.foreign_calls.proofs.Known.{written_known}
use Rattle.foreign_calls.proofs.job_texts.plain.Goals as goal

pub returns-in-Ok-clause-written : goal.returns-in-Ok-clause-written
returns-in-Ok-clause-written g c = (
  c.in-Ok.outcome,
  written_known plain_rendering _ _ _ _ _ c.in-Ok.outcome c.into_bytes.result.items c.in-Ok.ensures
      (ap (λ inner. Some inner.now) c.new-source.ensures.inner) c.new-text.ensures.bytes c.into_bytes.ensures,
  c.outcome_row.ensures,
)
