use Rattle.std.proofs.Common.{◌++◌, ◌∙◌, ap, flat_map}
use Rattle.std.proofs.lemmas.List.{take_all}
use Rattle.shown_bytes.proofs.Further.{further}
use Rattle.printer_models.specs.Listing.{model_line}
use Rattle.printer_models.proofs.listing.push_models.Goals as goal

pub loop-model-preserved : goal.loop-model-preserved
loop-model-preserved g c =
    further model_line c.args.models.now c.loop-model.model-index _
    c.args.text.now.items c.loop-model.text.items c.push_model.new.text.items
    c.loop-model-test.true c.loop-model.invariant c.in_ok-push_model.ensures

pub returns : goal.returns
returns g c =
    c.loop-model.invariant ∙ ap (λ models. c.args.text.now.items ++ flat_map model_line models) (take_all _ _ c.loop-model-test.false)
