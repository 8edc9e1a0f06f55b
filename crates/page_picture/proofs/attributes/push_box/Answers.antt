use Rattle.std.proofs.Common.{arith}
use Rattle.std.proofs.lemmas.Grind.{common_steps}
use Rattle.page_picture.specs.Attributes.{box_attributes}
use Rattle.page_picture.proofs.attributes.push_box.Goals as goal

pub returns : goal.returns
unfolding box_attributes
returns g c = grind (arith, common_steps)
