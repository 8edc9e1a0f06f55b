use Rattle.std.proofs.Common.{arith}
use Rattle.std.proofs.lemmas.Grind.{common_steps}
use Rattle.page_pdf.specs.Pages.{logical_text}
use Rattle.page_pdf.proofs.pages.push_logical.Goals as goal

pub returns : goal.returns
unfolding logical_text
returns g c = grind (arith, common_steps)
