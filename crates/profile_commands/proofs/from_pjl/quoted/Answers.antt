use Rattle.std.proofs.Common.{arith}
use Rattle.std.proofs.lemmas.Grind.{common_steps}
use Rattle.profile_commands.proofs.from_pjl.quoted.Goals as goal

pub returns : goal.returns
returns g c = grind (arith, common_steps)
