use Rattle.std.proofs.Common.{◌≡◌, refl, subst, ◌∙◌}
use Rattle.device_profile.specs.declared.field.Field.{Field}
use Rattle.device_profile.specs.declared.field.Field.TheVariants.{Size, Orientation, Vmi, Font, Copies, Sides, Tray, LineTerm}
use Rattle.device_profile.specs.declared.profile.Profile.TheInside.{Inside}
use Rattle.device_profile.specs.Choices.{values_in}
use Rattle.device_profile.specs.Fields.{printer_of}
use Rattle.device_profile.specs.Printer.{Printer, values_of}
use Rattle.device_profile.proofs.profile.Profile.allowed.Goals as goal

-- a printer has the values of its profile
same_values : {A : Type 0} (profile : Inside A) (field : Field) → values_in profile.choices field ≡ values_of (printer_of profile) field
same_values profile Size = refl
same_values profile Orientation = refl
same_values profile Vmi = refl
same_values profile Font = refl
same_values profile Copies = refl
same_values profile Sides = refl
same_values profile Tray = refl
same_values profile LineTerm = refl

pub returns : goal.returns
returns g c =
    subst (λ (printer : Printer). c.of.result.now ≡ values_of printer c.args.field) c.self.view_is
    (c.of.ensures ∙ same_values c.self.inside c.args.field)
