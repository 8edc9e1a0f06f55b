use Rattle.std.proofs.Common.{lit<, Bool, Result, Ok, Err, IfOk, IsTrue}
use Rattle.std.specs.List.{All}
use Rattle.device_profile.specs.declared.field.Field.{Field}
use Rattle.device_profile.specs.declared.field.Field.TheVariants.{Size, Orientation, Vmi, Font, Copies, Sides, Tray, LineTerm}
use Rattle.device_profile.specs.Field.{every_field}
use Rattle.printer_models.proofs.comparison.has_values.Goals as goal

of_each : (P : Field → Type 0) → All P every_field → (field : Field) → P field
of_each P each Size = each 0 Size (lit< tt)
of_each P each Orientation = each 1 Size (lit< tt)
of_each P each Vmi = each 2 Size (lit< tt)
of_each P each Font = each 3 Size (lit< tt)
of_each P each Copies = each 4 Size (lit< tt)
of_each P each Sides = each 5 Size (lit< tt)
of_each P each Tray = each 6 Size (lit< tt)
of_each P each LineTerm = each 7 Size (lit< tt)

if_each : {E : Type 0} (P : Field → Type 0) (result : Result Bool E) → IfOk result (λ has. IsTrue has → All P every_field) →
    IfOk result (λ has. IsTrue has → (field : Field) → P field)
if_each P (Ok has) each = λ is. of_each P (each is)
if_each P (Err error) each = each

pub returns : goal.returns
returns g c = if_each _ c.has_values_in.result c.has_values_in.ensures
