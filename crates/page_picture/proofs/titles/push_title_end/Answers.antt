use Rattle.std.proofs.Common.{arith}
use Rattle.std.proofs.lemmas.Grind.{common_steps}
use Rattle.page_picture.specs.Titles.{title_end}
use Rattle.page_picture.proofs.titles.push_title_end.Goals as goal

pub returns : goal.returns
unfolding title_end
returns g c = grind (arith, common_steps)
