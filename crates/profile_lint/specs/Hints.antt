-- Hints on a profile that was read.
use Rattle.std.specs.Prelude.{nat_lt, if◌then◌else◌, List, [], ◌∷◌, ◌++◌, flat_map, length}
use Rattle.device_profile.specs.declared.field.Field.{Field}
use Rattle.device_profile.specs.declared.field.Field.TheVariants.{Copies, Sides, Tray}
use Rattle.device_profile.specs.Printer.{Printer, has_one_panel, values_of}
use Rattle.printer_models.specs.declared.face.Generation.TheVariants.{LaserJet5}
use Rattle.printer_models.specs.Face.{faces_of}
use Rattle.profile_lint.specs.declared.hint.Hint.{Hint}
use Rattle.profile_lint.specs.declared.hint.Hint.TheVariants.{SeveralValues, FixedPanel}
use Rattle.profile_lint.specs.FaceHints.{face_hints}
use Rattle.profile_lint.specs.PageHints.{page_hints}

-- the panel may have several values in a field that jobs seldom set
abbrev pub several_hints : Printer → Field → List Hint
several_hints printer field = if nat_lt 1 (length (values_of printer field)) then SeveralValues field ∷ [] else []

abbrev pub fixed_hints : Printer → List Hint
fixed_hints printer = if has_one_panel printer then FixedPanel ∷ [] else []

abbrev pub panel_hints : Printer → List Hint
panel_hints printer =
    several_hints printer Copies ++ several_hints printer Sides ++ several_hints printer Tray ++ fixed_hints printer

-- On its pages, its faces and its panel. Both generations have the same faces, in another order.
unfoldable pub hints_of : Printer → List Hint
hints_of printer =
    flat_map page_hints printer.geometries ++ flat_map (face_hints (faces_of LaserJet5)) printer.faces
    ++ panel_hints printer
