use Rattle.std.proofs.Common.{arith}
use Rattle.std.proofs.lemmas.Grind.{common_steps}
use Rattle.page_picture.specs.Marks.{text_picture}
use Rattle.page_picture.proofs.marks.push_text_of.Goals as goal

pub returns : goal.returns
unfolding text_picture
returns g c = grind (arith, common_steps)
