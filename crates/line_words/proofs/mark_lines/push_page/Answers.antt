use Rattle.std.proofs.Common.{arith}
use Rattle.std.proofs.lemmas.Grind.{common_steps}
use Rattle.line_words.proofs.mark_lines.push_page.Goals as goal

pub returns : goal.returns
returns g c = grind (arith, common_steps)
