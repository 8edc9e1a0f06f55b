use Rattle.std.proofs.Common.{◌≡◌, ◌++◌, flat_map, take}
use Rattle.printer_models.specs.Listing.{model_line}
use Rattle.printer_models.proofs.listing.push_models.Given as goal

abbrev pub invariant-loop-model : goal.invariant-loop-model
invariant-loop-model g l = l.text.items ≡ l.initial.text.items ++ flat_map model_line (take l.model-index l.models)
