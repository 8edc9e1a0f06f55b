use Rattle.std.proofs.Common.{arith}
use Rattle.std.proofs.lemmas.Grind.{common_steps}
use Rattle.page_pdf.specs.Marks.{line_text}
use Rattle.page_pdf.proofs.marks.push_line.Goals as goal

pub returns : goal.returns
unfolding line_text
returns g c = grind (arith, common_steps)
