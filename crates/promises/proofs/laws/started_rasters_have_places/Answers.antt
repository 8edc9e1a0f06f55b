use Rattle.promises.proofs.StartedRastersFacts.{rasters_have_places}
use Rattle.promises.proofs.laws.started_rasters_have_places.Goals as goal

pub returns : goal.returns
returns c = rasters_have_places
