use Rattle.job_rows.proofs.Inert.{inert_text}
use Rattle.job_rows.proofs.escapes.texts_are_inert.Goals as goal

pub returns : goal.returns
returns c = inert_text
