use Rattle.std.proofs.Common.{arith}
use Rattle.std.proofs.lemmas.Grind.{common_steps}
use Rattle.profile_show.specs.Shown.{device_lines}
use Rattle.profile_show.proofs.shown.push_device.Goals as goal

pub returns : goal.returns
unfolding device_lines
returns g c = grind (arith, common_steps)
