use Rattle.promises.proofs.Parts.{part_passes}
use Rattle.promises.proofs.laws.part_of_a_fleet.Goals as goal

pub returns : goal.returns
returns c =
    λ fleet part reading page_total mark_total passed contained some.
    part_passes fleet part reading page_total mark_total passed contained some
