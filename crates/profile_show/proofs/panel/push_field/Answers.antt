use Rattle.std.proofs.Common.{arith}
use Rattle.std.proofs.lemmas.Grind.{common_steps}
use Rattle.profile_show.specs.Panel.{field_lines}
use Rattle.profile_show.proofs.panel.push_field.Goals as goal

pub returns : goal.returns
unfolding field_lines
returns g c = grind (arith, common_steps)
