use Rattle.std.proofs.Common.{◌∙◌, ◌+◌, ap}
use Rattle.device_profile.specs.Nearest.{part, parts_met}
use Rattle.device_profile.proofs.nearest.parts_met.Goals as goal

pub returns : goal.returns
unfolding parts_met
returns c = λ i.
    (c.part.ensures.value ∙ ap part c.is_same_set.ensures) i + c.part-2.ensures.value i + c.part-3.ensures.value i
    + c.part-4.ensures.value i + c.part-5.ensures.value i
    + (c.part-6.ensures.value ∙ ap part c.is_same_weight.ensures) i + c.part-7.ensures.value i
