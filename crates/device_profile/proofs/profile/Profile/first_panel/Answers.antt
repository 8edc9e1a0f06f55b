use Rattle.std.proofs.Common.{IsTrue, subst}
use Rattle.device_profile.specs.Fields.{printer_of}
use Rattle.device_profile.specs.Printer.{Printer, HasPages, has_every_pair}
use Rattle.device_profile.specs.declared.field.Field.TheVariants.{Size, Orientation, Vmi, Font, Copies, Sides, Tray, LineTerm}
use Rattle.device_profile.proofs.Valid.{valid_parts, HasPages-valid, IsAllowed-first_panel, some_allowed}
use Rattle.device_profile.proofs.profile.Profile.first_panel.Goals as goal

pub first-requires : goal.first-requires
first-requires g c = some_allowed (printer_of c.self.inside) Size c.self.invariant

pub first-requires-2 : goal.first-requires-2
first-requires-2 g c = some_allowed (printer_of c.self.inside) Orientation c.self.invariant

pub first-requires-3 : goal.first-requires-3
first-requires-3 g c = some_allowed (printer_of c.self.inside) Vmi c.self.invariant

pub first-requires-4 : goal.first-requires-4
first-requires-4 g c = some_allowed (printer_of c.self.inside) Font c.self.invariant

pub first-requires-5 : goal.first-requires-5
first-requires-5 g c = some_allowed (printer_of c.self.inside) Copies c.self.invariant

pub first-requires-6 : goal.first-requires-6
first-requires-6 g c = some_allowed (printer_of c.self.inside) Sides c.self.invariant

pub first-requires-7 : goal.first-requires-7
first-requires-7 g c = some_allowed (printer_of c.self.inside) Tray c.self.invariant

pub first-requires-8 : goal.first-requires-8
first-requires-8 g c = some_allowed (printer_of c.self.inside) LineTerm c.self.invariant

pub returns-clause-value : goal.returns-clause-value
returns-clause-value g c =
    rw (
      ← c.self.view_is,
      c.first.ensures,
      c.first-2.ensures,
      c.first-3.ensures,
      c.first-4.ensures,
      c.first-5.ensures,
      c.first-6.ensures,
      c.first-7.ensures,
      c.first-8.ensures,
    )

pub returns-clause-allowed : goal.returns-clause-allowed
returns-clause-allowed g c =
    rw (
      ← c.self.view_is,
      c.first.ensures,
      c.first-2.ensures,
      c.first-3.ensures,
      c.first-4.ensures,
      c.first-5.ensures,
      c.first-6.ensures,
      c.first-7.ensures,
      c.first-8.ensures,
    )
    (IsAllowed-first_panel (printer_of c.self.inside) c.self.invariant)

pub returns-clause-pages : goal.returns-clause-pages
returns-clause-pages g c = subst HasPages c.self.view_is (HasPages-valid (printer_of c.self.inside) c.self.invariant)

pub returns-clause-pairs : goal.returns-clause-pairs
returns-clause-pairs g c =
    subst (λ (printer : Printer). IsTrue (has_every_pair printer.geometries)) c.self.view_is
    ((valid_parts (printer_of c.self.inside) c.self.invariant).pairs)
