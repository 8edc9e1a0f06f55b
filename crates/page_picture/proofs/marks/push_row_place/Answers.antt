use Rattle.std.proofs.Common.{arith}
use Rattle.std.proofs.lemmas.Grind.{common_steps}
use Rattle.page_picture.specs.Marks.{row_place}
use Rattle.page_picture.proofs.marks.push_row_place.Goals as goal

pub returns : goal.returns
unfolding row_place
returns g c = grind (arith, common_steps)
