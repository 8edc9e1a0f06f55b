use Rattle.std.proofs.Common.{arith}
use Rattle.std.proofs.lemmas.Grind.{common_steps}
use Rattle.page_picture.specs.Failure.{stretch}
use Rattle.page_picture.proofs.failure.push_stretch.Goals as goal

pub returns : goal.returns
unfolding stretch
returns g c = grind (arith, common_steps)
