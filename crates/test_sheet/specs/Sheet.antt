-- The job with which a person compares a printer and its profile.
use Rattle.std.specs.Prelude.{ℕ, List, [], ◌++◌, if◌then◌else◌}
use Rattle.std.specs.Option.{option_map_or}
use Rattle.device_profile.specs.declared.geometry.Geometry.{Geometry}
use Rattle.device_profile.specs.declared.panel.Panel.{Panel}
use Rattle.device_profile.specs.Faces.{Face, face_at}
use Rattle.device_profile.specs.Printer.{Printer, first_panel, geometry_at, has_one_panel}
use Rattle.test_sheet.specs.Commands.{reset, unit_of_measure, sheet_settings}
use Rattle.test_sheet.specs.FacePages.{face_pages}
use Rattle.test_sheet.specs.MeasuredPage.{measured_pages}
use Rattle.test_sheet.specs.OwnPage.{own_page}

-- the page of a panel
abbrev pub page_of : Printer → Panel → Geometry
page_of printer panel = geometry_at printer.geometries panel.size panel.orientation

-- a page that sets nothing, where the panel can be in one way alone
unfoldable pub own_part : List ℕ → Printer → Panel → Face → List ℕ
own_part name printer panel face =
    if has_one_panel printer then own_page name (page_of printer panel) face panel else []

-- all is set, then come the pages to measure, and the faces
unfoldable pub set_part : List ℕ → Printer → Panel → Face → List ℕ
set_part name printer panel face =
    unit_of_measure
    ++ sheet_settings panel.tray
    ++ measured_pages name face printer.sizes printer.geometries
    ++ face_pages (page_of printer panel) face printer.faces

-- the sheet under a panel whose font is this face
unfoldable pub sheet_in : List ℕ → Printer → Panel → Face → List ℕ
sheet_in name printer panel face =
    reset ++ own_part name printer panel face ++ set_part name printer panel face ++ reset

-- the sheet under the first panel, whose font each printer that hangs together has
unfoldable pub sheet : List ℕ → Printer → List ℕ
sheet name printer =
    option_map_or (λ face. sheet_in name printer (first_panel printer) face)
    (face_at printer.faces (first_panel printer).font) []
