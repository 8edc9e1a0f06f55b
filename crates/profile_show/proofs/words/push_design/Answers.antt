use Rattle.std.proofs.Common.{arith}
use Rattle.std.proofs.lemmas.Grind.{common_steps}
use Rattle.profile_show.specs.Words.{design_words}
use Rattle.profile_show.proofs.words.push_design.Goals as goal

pub returns : goal.returns
unfolding design_words
returns g c = grind (arith, common_steps)
