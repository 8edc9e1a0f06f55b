use Rattle.std.proofs.Common.{arith}
use Rattle.std.proofs.lemmas.Grind.{common_steps}
use Rattle.page_pdf.specs.Objects.{page_body}
use Rattle.page_pdf.proofs.objects.push_page_body.Goals as goal

pub returns : goal.returns
unfolding page_body
returns g c = grind (arith, common_steps)
