use Rattle.std.proofs.Common.{arith}
use Rattle.std.proofs.lemmas.Grind.{common_steps}
use Rattle.page_pdf.specs.Pages.{sentence_place}
use Rattle.page_pdf.proofs.pages.push_sentence_place.Goals as goal

pub returns : goal.returns
unfolding sentence_place
returns g c = grind (arith, common_steps)
