use Rattle.std.proofs.Common.{arith}
use Rattle.std.proofs.lemmas.Grind.{common_steps}
use Rattle.page_picture.specs.Sheet.{failure_picture}
use Rattle.page_picture.proofs.sheet.push_failure.Goals as goal

pub returns : goal.returns
unfolding failure_picture
returns g c = grind (arith, common_steps)
