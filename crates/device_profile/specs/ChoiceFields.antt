-- The fields of choices, as definitions see them.
use Rattle.device_profile.specs.Choices.{Choices}
use Rattle.device_profile.specs.declared.choices.Choices.TheInside.{Inside}

abbrev pub choices_of_fields : {A : Type 0} → Inside A → Choices
choices_of_fields c = record {
  sizes = c.sizes.items;
  orientations = c.orientations.items;
  vmis = c.vmis.items;
  fonts = c.fonts.items;
  copies = c.copies.items;
  sides = c.sides.items;
  panel_trays = c.panel_trays.items;
  line_terminations = c.line_terminations.items;
}
