use Rattle.std.proofs.Common.{arith}
use Rattle.std.proofs.lemmas.Grind.{common_steps}
use Rattle.page_picture.specs.Rows.{run_text}
use Rattle.page_picture.proofs.rows.push_run.Goals as goal

pub returns : goal.returns
unfolding run_text
returns g c = grind (arith, common_steps)
