use Rattle.std.proofs.Common.{arith}
use Rattle.std.proofs.lemmas.Grind.{common_steps}
use Rattle.page_pdf.specs.Bands.{band_place}
use Rattle.page_pdf.proofs.bands.push_band_place.Goals as goal

pub returns : goal.returns
unfolding band_place
returns g c = grind (arith, common_steps)
