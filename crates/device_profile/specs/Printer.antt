-- What contracts know of a printer.
use Rattle.std.specs.Prelude.{ℕ, ◌==◌, ◌&&◌, ◌||◌, nat_le, Bool, not, IsTrue, IsSome, IsSomeAnd, List, length}
use Rattle.std.specs.Prelude.{slice_index, Option, find, unwrap_or, Contains, pos, ◌+ℤ◌, int_lt, int_le}
use Rattle.std.specs.List.{list_all, list_any}
use Rattle.tick_length.specs.Measures.{ticks_per_inch}
use Rattle.device_profile.specs.declared.field.Field.{Field}
use Rattle.device_profile.specs.declared.field.Field.TheVariants.{Size, Orientation, Vmi, Font, Copies, Sides, Tray}
use Rattle.device_profile.specs.declared.field.Field.TheVariants.{LineTerm}
use Rattle.device_profile.specs.declared.geometry.Geometry.{Geometry}
use Rattle.device_profile.specs.declared.panel.Panel.{Panel}
use Rattle.device_profile.specs.Field.{every_field}
use Rattle.device_profile.specs.Faces.{Face, face_at, has_face, has_metrics, is_request, are_faces}
use Rattle.device_profile.specs.Rows.{has_alike}
use Rattle.device_profile.specs.Values.{is_value, are_choices}

-- the values that the panel may have in each field, what the device has, its pages, and how many items of a job its
-- macros may carry out, where that is limited
pub record Printer : Type 0 where
  pub sizes : List ℕ
  pub orientations : List ℕ
  pub vmis : List ℕ
  pub fonts : List ℕ
  pub copies : List ℕ
  pub sides : List ℕ
  pub panel_trays : List ℕ
  pub line_terminations : List ℕ
  pub device_trays : List ℕ
  pub has_duplex : Bool
  pub depth : ℕ
  pub memory : ℕ
  pub most_items : Option ℕ
  pub geometries : List Geometry
  pub faces : List Face

-- the values that the panel may have in a field
abbrev pub values_of : Printer → Field → List ℕ
values_of printer Size = printer.sizes
values_of printer Orientation = printer.orientations
values_of printer Vmi = printer.vmis
values_of printer Font = printer.fonts
values_of printer Copies = printer.copies
values_of printer Sides = printer.sides
values_of printer Tray = printer.panel_trays
values_of printer LineTerm = printer.line_terminations

-- the panel may have one value in this field
abbrev pub has_one_value : Printer → Field → Bool
has_one_value printer field = length (values_of printer field) == 1

-- the panel can be in one way alone
abbrev pub has_one_panel : Printer → Bool
has_one_panel printer = list_all (has_one_value printer) every_field

-- a panel that the printer may have
pub record IsAllowed (printer : Printer) (panel : Panel) : Type 0 where
  pub size : Contains printer.sizes panel.size
  pub orientation : Contains printer.orientations panel.orientation
  pub vmi : Contains printer.vmis panel.vmi
  pub font : Contains printer.fonts panel.font
  pub copies : Contains printer.copies panel.copies
  pub sides : Contains printer.sides panel.sides
  pub tray : Contains printer.panel_trays panel.tray
  pub line_termination : Contains printer.line_terminations panel.line_termination

-- the first value of each list
abbrev pub first_panel : Printer → Panel
first_panel printer = record {
  size = slice_index printer.sizes 0;
  orientation = slice_index printer.orientations 0;
  vmi = slice_index printer.vmis 0;
  font = slice_index printer.fonts 0;
  copies = slice_index printer.copies 0;
  sides = slice_index printer.sides 0;
  tray = slice_index printer.panel_trays 0;
  line_termination = slice_index printer.line_terminations 0;
}

-- the row of a size and an orientation
unfoldable pub row_at : List Geometry → ℕ → ℕ → Option Geometry
row_at rows size orientation = find (λ row. (row.size == size) && (row.orientation == orientation)) rows

-- whether some row has this size
unfoldable pub has_size : List Geometry → ℕ → Bool
has_size rows size = list_any (λ row. row.size == size) rows

-- whether some row has this orientation
unfoldable pub has_orientation : List Geometry → ℕ → Bool
has_orientation rows orientation = list_any (λ row. row.orientation == orientation) rows

-- a page of no size
abbrev pub no_page : Geometry
no_page = record {
  size = 0;
  orientation = 0;
  page_width = pos 0;
  page_height = pos 0;
  logical_left = pos 0;
  logical_top = pos 0;
  logical_width = pos 0;
  logical_height = pos 0;
  printable_left = pos 0;
  printable_top = pos 0;
  printable_right = pos 0;
  printable_bottom = pos 0;
}

-- the row of a size and an orientation, or a page of no size: on it no mark lies, and no panel that a
-- valid printer may have leads to it
unfoldable pub geometry_at : List Geometry → ℕ → ℕ → Geometry
geometry_at rows size orientation = unwrap_or (row_at rows size orientation) no_page

-- each panel that the printer may have has a page
abbrev pub HasPages : Printer → Type 0
HasPages printer =
    (panel : Panel) → IsAllowed printer panel → IsSome (row_at printer.geometries panel.size panel.orientation)

-- each panel that the printer may have has a face, with its metrics
abbrev pub HasFaces : Printer → Type 0
HasFaces printer =
    (panel : Panel) → IsAllowed printer panel →
    IsSomeAnd (face_at printer.faces panel.font) (λ face. IsTrue (has_metrics face))

-- each field of a panel has one of its values
pub record HasItsValues (panel : Panel) : Type 0 where
  pub size : IsTrue (is_value Size panel.size)
  pub orientation : IsTrue (is_value Orientation panel.orientation)
  pub vmi : IsTrue (is_value Vmi panel.vmi)
  pub copies : IsTrue (is_value Copies panel.copies)
  pub sides : IsTrue (is_value Sides panel.sides)
  pub tray : IsTrue (is_value Tray panel.tray)
  pub line_termination : IsTrue (is_value LineTerm panel.line_termination)

-- each field of the panel has 1 to 16 of its values, and the device 1 to 16 trays, none twice
abbrev pub has_choices : Printer → Bool
has_choices printer =
    are_choices Size printer.sizes && are_choices Orientation printer.orientations && are_choices Vmi printer.vmis
    && are_choices Font printer.fonts && are_choices Copies printer.copies && are_choices Sides printer.sides
    && are_choices Tray printer.panel_trays && are_choices LineTerm printer.line_terminations
    && are_choices Tray printer.device_trays

-- whether the device has this tray
abbrev pub has_tray : Printer → ℕ → Bool
has_tray printer tray = list_any (λ held. held == tray) printer.device_trays

-- each panel that the printer may have has a tray
abbrev pub HasTrays : Printer → Type 0
HasTrays printer = (panel : Panel) → IsAllowed printer panel → IsTrue (has_tray printer panel.tray)

-- each size and each orientation of the panel is one of some page, each of the panel's fonts is a face, and each of its
-- trays is one of the device
abbrev pub has_what_it_offers : Printer → Bool
has_what_it_offers printer =
    list_all (λ size. has_size printer.geometries size) printer.sizes
    && list_all (λ orientation. has_orientation printer.geometries orientation) printer.orientations
    && list_all (λ font. has_face printer.faces font) printer.fonts
    && list_all (λ tray. has_tray printer tray) printer.panel_trays

-- one side, or both where the device has duplex
abbrev pub are_sides : Bool → ℕ → Bool
are_sides has_duplex sides = (sides == 0) || (has_duplex && ((sides == 1) || (sides == 2)))

-- a job can set all that a panel has:
-- the values of its fields, which the device has, and the parts of its font's request
pub record CanBeSetTo (printer : Printer) (panel : Panel) : Type 0 where
  pub values : HasItsValues panel
  pub size : IsTrue (has_size printer.geometries panel.size)
  pub orientation : IsTrue (has_orientation printer.geometries panel.orientation)
  pub sides : IsTrue (are_sides printer.has_duplex panel.sides)
  pub tray : IsTrue (has_tray printer panel.tray)
  pub request : IsSomeAnd (face_at printer.faces panel.font) (λ face. IsTrue (is_request face.request))

-- so it is with each panel that the printer may have
abbrev pub CanBeSet : Printer → Type 0
CanBeSet printer = (panel : Panel) → IsAllowed printer panel → CanBeSetTo printer panel

-- whether some row has this size and this orientation
abbrev pub has_row : List Geometry → ℕ → ℕ → Bool
has_row rows size orientation = list_any (λ row. (row.size == size) && (row.orientation == orientation)) rows

-- each size of a page goes with each orientation of a page
abbrev pub has_every_pair : List Geometry → Bool
has_every_pair rows = list_all (λ sized. list_all (λ turned. has_row rows sized.size turned.orientation) rows) rows

-- the logical page lies in the page and is an inch high or more
abbrev pub fits_logical_page : Geometry → Bool
fits_logical_page row =
    int_le (pos 0) row.logical_left && int_le (pos 0) row.logical_top && int_le (pos 0) row.logical_width
    && int_le (row.logical_left +ℤ row.logical_width) row.page_width
    && int_le (row.logical_top +ℤ row.logical_height) row.page_height
    && int_le (pos ticks_per_inch) row.logical_height

-- the printable area lies in the page and is not empty
abbrev pub fits_printable_area : Geometry → Bool
fits_printable_area row =
    int_le (pos 0) row.printable_left && int_lt row.printable_left row.printable_right
    && int_le row.printable_right row.page_width
    && int_le (pos 0) row.printable_top && int_lt row.printable_top row.printable_bottom
    && int_le row.printable_bottom row.page_height

-- both areas of a page lie in it
abbrev pub fits_page : Geometry → Bool
fits_page row = fits_logical_page row && fits_printable_area row

-- the size and the orientation are values of these fields, and both areas lie in the page
abbrev pub is_page : Geometry → Bool
is_page row = is_value Size row.size && is_value Orientation row.orientation && fits_page row

-- the two are pages of the same size and orientation
abbrev pub is_same_page : Geometry → Geometry → Bool
is_same_page a b = (a.size == b.size) && (a.orientation == b.orientation)

-- at most 64 pages, no two of one size and orientation, and each size with each orientation
abbrev pub are_pages : List Geometry → Bool
are_pages rows =
    nat_le (length rows) 64 && not (has_alike is_same_page rows) && has_every_pair rows && list_all is_page rows

-- a printer that hangs together
abbrev pub is_valid : Printer → Bool
is_valid printer =
    has_choices printer && has_what_it_offers printer
    && list_all (are_sides printer.has_duplex) printer.sides
    && nat_le printer.depth 8 && nat_le printer.memory 1_048_576
    && are_pages printer.geometries && are_faces printer.faces
