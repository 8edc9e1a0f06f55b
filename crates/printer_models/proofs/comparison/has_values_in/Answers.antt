use Rattle.std.proofs.Common.{◌≡◌}
use Rattle.std.proofs.lemmas.List.Elements.{All-more}
use Rattle.device_profile.specs.Printer.{values_of}
use Rattle.printer_models.specs.Panel.{panel_values}
use Rattle.printer_models.proofs.comparison.has_values_in.Goals as goal

pub loop-field-preserved : goal.loop-field-preserved
loop-field-preserved g c =
    All-more (λ field. values_of c.args.profile.now field ≡ panel_values c.args.model c.args.papers.now c.args.lists field)
    c.args.fields.now c.loop-field.field-index _ c.loop-field-test.true c.loop-field.invariant
    (c.in_ok-has.ensures c.if-not-has.false)
