use Rattle.std.proofs.Common.{arith}
use Rattle.std.proofs.lemmas.Grind.{common_steps}
use Rattle.page_pdf.specs.Figures.{box_figures}
use Rattle.page_pdf.proofs.figures.push_box.Goals as goal

pub returns : goal.returns
unfolding box_figures
returns g c = grind (arith, common_steps)
