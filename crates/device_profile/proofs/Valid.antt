-- What a valid printer has.
use Rattle.std.proofs.Common.{◌≡◌, ℕ, ◌==◌, ◌<◌, ◌&&◌, Bool, not, List, [], ◌∷◌, length, get_or, IsTrue, IsSome, IsSomeAnd, Contains, Any}
use Rattle.std.proofs.Common.{find, IfSome, Option, None, Some, inl, inr, nat_le, rules, arith, refl}
use Rattle.std.specs.List.{list_all, list_any}
use Rattle.std.proofs.lemmas.Bool.{and_parts, or_cases, both_ways, false≢true, leb-true, cond_both, eqb-true}
use Rattle.std.proofs.lemmas.List.Elements.{All-contains, Contains-get_or}
use Rattle.std.proofs.lemmas.List.Folds.{Any-from_list_any}
use Rattle.std.proofs.lemmas.List.Sums.{AllPass-from_list_all}
use Rattle.device_profile.specs.declared.geometry.Geometry.{Geometry}
use Rattle.device_profile.specs.declared.panel.Panel.{Panel}
use Rattle.device_profile.specs.declared.field.Field.{Field}
use Rattle.device_profile.specs.declared.field.Field.TheVariants.{Size, Orientation, Vmi, Font, Copies, Sides, Tray, LineTerm}
use Rattle.device_profile.specs.Faces.{Face, face_at, face_for, has_face, has_metrics, is_request, is_face, are_ranges_from}
use Rattle.device_profile.specs.Faces.{is_same_request}
use Rattle.device_profile.specs.declared.font.FontRequest.{FontRequest}
use Rattle.device_profile.specs.Values.{is_between, is_value, are_values, are_choices, has_repeat}
use Rattle.device_profile.specs.Printer.{Printer, is_valid, has_choices, values_of, has_row, has_every_pair, has_size, has_orientation}
use Rattle.device_profile.specs.Printer.{has_tray, are_sides, row_at, fits_page, is_page, first_panel, IsAllowed, HasPages, HasFaces}
use Rattle.device_profile.specs.Printer.{HasTrays, HasItsValues, CanBeSet}

-- an element of a list whose elements all pass
passes-at : {X : Type 0} (p : X → Bool) (xs : List X) (x : X) → IsTrue (list_all p xs) → Contains xs x → IsTrue (p x)
passes-at p xs x all is_in = All-contains (λ y. IsTrue (p y)) xs x (AllPass-from_list_all p xs all) is_in

-- a search finds something where some element passes
IsSome-find : {X : Type 0} (p : X → Bool) (xs : List X) → IsTrue (list_any p xs) → IsSome (find p xs)
IsSome-find p [] any = absurd (false≢true any)
IsSome-find p (x ∷ xs) any =
    cond_both (p x) (Some x) (find p xs) (λ found. IsSome found) (λ yes. refl)
    (λ no. IsSome-find p xs (elim (or_cases (p x) (list_any p xs) any) [ inl now ↦ absurd (both_ways (p x) no now) | inr later ↦ later ]))

-- what a search finds is as all elements are
IfSome-find : {X : Type 0} (P : X → Type 0) (p q : X → Bool) (xs : List X) → ((x : X) → IsTrue (q x) → P x) → IsTrue (list_all q xs) →
    IfSome (find p xs) P
IfSome-find P p q [] holds all = search rules
IfSome-find P p q (x ∷ xs) holds all =
    let parts : IsTrue (q x) × IsTrue (list_all q xs) = and_parts (q x) (list_all q xs) all in
    cond_both (p x) (Some x) (find p xs) (λ found. IfSome found P) (λ yes. holds x parts.0) (λ no. IfSome-find P p q xs holds parts.1)

-- where each size goes with each orientation, a size and an orientation of some row have a row
row_of_pair : (rows : List Geometry) (size orientation : ℕ) → IsTrue (has_every_pair rows) → IsTrue (has_size rows size) →
    IsTrue (has_orientation rows orientation) → IsSome (row_at rows size orientation)
unfolding row_at has_size has_orientation
row_of_pair rows size orientation pairs sized turned =
    let a : Any (λ row. IsTrue (row.size == size)) rows = Any-from_list_any (λ row. row.size == size) rows sized in
    let b : Any (λ row. IsTrue (row.orientation == orientation)) rows =
    Any-from_list_any (λ row. row.orientation == orientation) rows turned in
    let with_a : IsTrue (list_all (λ row. has_row rows a.1.size row.orientation) rows) =
    passes-at
    (λ (row : Geometry). list_all (λ (other : Geometry). has_row rows row.size other.orientation) rows) rows a.1 pairs (a.0, a.2, a.3) in
    let with_b : IsTrue (has_row rows a.1.size b.1.orientation) =
    passes-at (λ (row : Geometry). has_row rows a.1.size row.orientation) rows b.1 with_a (b.0, b.2, b.3) in
    let is_size : a.1.size ≡ size = eqb-true _ _ a.4 in
    let is_orientation : b.1.orientation ≡ orientation = eqb-true _ _ b.4 in
    IsSome-find (λ (row : Geometry). (row.size == size) && (row.orientation == orientation)) rows (rw (← is_size, ← is_orientation) with_b)

-- what a valid printer's test says
pub record Valid (printer : Printer) : Type 0 where
  pub values : (field : Field) → IsTrue (are_values field (values_of printer field))
  pub sized : IsTrue (list_all (λ size. has_size printer.geometries size) printer.sizes)
  pub turned : IsTrue (list_all (λ orientation. has_orientation printer.geometries orientation) printer.orientations)
  pub faced : IsTrue (list_all (λ font. has_face printer.faces font) printer.fonts)
  pub held : IsTrue (list_all (λ tray. has_tray printer tray) printer.panel_trays)
  pub sided : IsTrue (list_all (are_sides printer.has_duplex) printer.sides)
  pub pairs : IsTrue (has_every_pair printer.geometries)
  pub pages : IsTrue (list_all is_page printer.geometries)
  pub faces : IsTrue (list_all is_face printer.faces)

listed : (field : Field) (values : List ℕ) → IsTrue (are_choices field values) → IsTrue (are_values field values)
listed field values are = (and_parts (are_values field values) (not (has_repeat values)) are).0

-- the values of each field
all_listed : (printer : Printer) → IsTrue (has_choices printer) → (field : Field) → IsTrue (are_values field (values_of printer field))
all_listed printer choices field =
    let c8 = and_parts _ _ choices in
    let c7 = and_parts _ _ c8.0 in
    let c6 = and_parts _ _ c7.0 in
    let c5 = and_parts _ _ c6.0 in
    let c4 = and_parts _ _ c5.0 in
    let c3 = and_parts _ _ c4.0 in
    let c2 = and_parts _ _ c3.0 in
    let c1 = and_parts _ _ c2.0 in
    elim field as (λ f. IsTrue (are_values f (values_of printer f))) [
      | Size ↦ listed Size printer.sizes c1.0
      | Orientation ↦ listed Orientation printer.orientations c1.1
      | Vmi ↦ listed Vmi printer.vmis c2.1
      | Font ↦ listed Font printer.fonts c3.1
      | Copies ↦ listed Copies printer.copies c4.1
      | Sides ↦ listed Sides printer.sides c5.1
      | Tray ↦ listed Tray printer.panel_trays c6.1
      | LineTerm ↦ listed LineTerm printer.line_terminations c7.1
    ]

pub valid_parts : (printer : Printer) → IsTrue (is_valid printer) → Valid printer
valid_parts printer valid =
    let faces = and_parts _ _ valid in
    let pages = and_parts _ _ faces.0 in
    let described = and_parts _ _ faces.1 in
    let memory = and_parts _ _ pages.0 in
    let depth = and_parts _ _ memory.0 in
    let sides = and_parts _ _ depth.0 in
    let choices = and_parts _ _ sides.0 in
    let offers = and_parts _ _ choices.1 in
    let fonts = and_parts _ _ offers.0 in
    let turned = and_parts _ _ fonts.0 in
    let fits = and_parts _ _ pages.1 in
    let pairs = and_parts _ _ fits.0 in
    record {
      values = all_listed printer choices.0;
      sized = turned.0;
      turned = turned.1;
      faced = fonts.1;
      held = offers.1;
      sided = sides.1;
      pairs = pairs.1;
      pages = fits.1;
      faces = described.1;
    }

some_values : (field : Field) (values : List ℕ) → IsTrue (are_values field values) → 0 < length values
some_values field values are =
    let counted = and_parts (is_between 1 16 (length values)) (list_all (is_value field) values) are in
    let bounds = and_parts (nat_le 1 (length values)) (nat_le (length values) 16) counted.0 in
    omega (arith, leb-true 1 (length values) bounds.0)

-- a valid printer's panel has some value in each field
pub some_allowed : (printer : Printer) (field : Field) → IsTrue (is_valid printer) → 0 < length (values_of printer field)
some_allowed printer field valid = some_values field (values_of printer field) ((valid_parts printer valid).values field)

first-Contains : (field : Field) (values : List ℕ) → IsTrue (are_values field values) → Contains values (get_or values 0 0)
first-Contains field values are = Contains-get_or values 0 0 (some_values field values are)

-- the panel of the first values is one that the printer may have
pub IsAllowed-first_panel : (printer : Printer) → IsTrue (is_valid printer) → IsAllowed printer (first_panel printer)
IsAllowed-first_panel printer valid =
    let parts : Valid printer = valid_parts printer valid in
    record {
      size = first-Contains Size printer.sizes (parts.values Size);
      orientation = first-Contains Orientation printer.orientations (parts.values Orientation);
      vmi = first-Contains Vmi printer.vmis (parts.values Vmi);
      font = first-Contains Font printer.fonts (parts.values Font);
      copies = first-Contains Copies printer.copies (parts.values Copies);
      sides = first-Contains Sides printer.sides (parts.values Sides);
      tray = first-Contains Tray printer.panel_trays (parts.values Tray);
      line_termination = first-Contains LineTerm printer.line_terminations (parts.values LineTerm);
    }

value-listed : (field : Field) (values : List ℕ) (value : ℕ) → IsTrue (are_values field values) → Contains values value →
    IsTrue (is_value field value)
value-listed field values value are is_in =
    passes-at (is_value field) values value ((and_parts (is_between 1 16 (length values)) (list_all (is_value field) values) are).1) is_in

-- each field of a panel that a valid printer may have has one of its values
has_its_values : (printer : Printer) (panel : Panel) → IsTrue (is_valid printer) → IsAllowed printer panel → HasItsValues panel
has_its_values printer panel valid allowed =
    let parts : Valid printer = valid_parts printer valid in
    record {
      size = value-listed Size printer.sizes panel.size (parts.values Size) allowed.size;
      orientation = value-listed Orientation printer.orientations panel.orientation (parts.values Orientation) allowed.orientation;
      vmi = value-listed Vmi printer.vmis panel.vmi (parts.values Vmi) allowed.vmi;
      copies = value-listed Copies printer.copies panel.copies (parts.values Copies) allowed.copies;
      sides = value-listed Sides printer.sides panel.sides (parts.values Sides) allowed.sides;
      tray = value-listed Tray printer.panel_trays panel.tray (parts.values Tray) allowed.tray;
      line_termination =
          value-listed LineTerm printer.line_terminations panel.line_termination (parts.values LineTerm) allowed.line_termination;
    }

-- each panel that a valid printer may have has a page
pub HasPages-valid : (printer : Printer) → IsTrue (is_valid printer) → HasPages printer
HasPages-valid printer valid panel allowed =
    let parts : Valid printer = valid_parts printer valid in
    row_of_pair printer.geometries panel.size panel.orientation parts.pairs
    (passes-at (λ size. has_size printer.geometries size) printer.sizes panel.size parts.sized allowed.size)
    (passes-at
    (λ orientation. has_orientation printer.geometries orientation) printer.orientations panel.orientation parts.turned allowed.orientation)

-- each panel that a valid printer may have has a tray
pub HasTrays-valid : (printer : Printer) → IsTrue (is_valid printer) → HasTrays printer
HasTrays-valid printer valid panel allowed =
    passes-at (λ tray. has_tray printer tray) printer.panel_trays panel.tray ((valid_parts printer valid).held) allowed.tray

page_fits : (row : Geometry) → IsTrue (is_page row) → IsTrue (fits_page row)
page_fits row is = (and_parts (is_value Size row.size && is_value Orientation row.orientation) (fits_page row) is).1

-- the row that is looked up lies in its page
pub IfSome-row_at : (printer : Printer) (size orientation : ℕ) → IsTrue (is_valid printer) →
    IfSome (row_at printer.geometries size orientation) (λ row. IsTrue (fits_page row))
unfolding row_at
IfSome-row_at printer size orientation valid =
    IfSome-find (λ row. IsTrue (fits_page row)) (λ (row : Geometry). (row.size == size) && (row.orientation == orientation)) is_page
    printer.geometries page_fits ((valid_parts printer valid).pages)

face_metrics : (face : Face) → IsTrue (is_face face) → IsTrue (has_metrics face)
face_metrics face is =
    let parts = and_parts (is_value Font face.id && is_request face.request && has_metrics face) (are_ranges_from 33 face.codes) is in
    (and_parts (is_value Font face.id && is_request face.request) (has_metrics face) parts.0).1

-- the face that is looked up has its metrics
pub IfSome-face_at : (printer : Printer) (id : ℕ) → IsTrue (is_valid printer) →
    IfSome (face_at printer.faces id) (λ face. IsTrue (has_metrics face))
unfolding face_at
IfSome-face_at printer id valid =
    IfSome-find (λ face. IsTrue (has_metrics face)) (λ (face : Face). face.id == id) is_face printer.faces face_metrics
    ((valid_parts printer valid).faces)

pub IfSome-face_for : (printer : Printer) (request : FontRequest) → IsTrue (is_valid printer) →
    IfSome (face_for printer.faces request) (λ face. IsTrue (has_metrics face))
unfolding face_for
IfSome-face_for printer request valid =
    IfSome-find (λ face. IsTrue (has_metrics face))
    (λ (face : Face). is_same_request face.request request) is_face printer.faces face_metrics ((valid_parts printer valid).faces)

some_and : {X : Type 0} (P : X → Type 0) (found : Option X) → IsSome found → IfSome found P → IsSomeAnd found P
some_and P None some holds = absurd (false≢true some)
some_and P (Some x) some holds = holds

-- each panel that a valid printer may have has a face, with its metrics
pub HasFaces-valid : (printer : Printer) → IsTrue (is_valid printer) → HasFaces printer
unfolding face_at has_face
HasFaces-valid printer valid panel allowed =
    some_and (λ face. IsTrue (has_metrics face)) (face_at printer.faces panel.font)
    (IsSome-find (λ (face : Face). face.id == panel.font) printer.faces
    (passes-at (λ font. has_face printer.faces font) printer.fonts panel.font ((valid_parts printer valid).faced) allowed.font))
    (IfSome-face_at printer panel.font valid)

face_request : (face : Face) → IsTrue (is_face face) → IsTrue (is_request face.request)
face_request face is =
    let parts = and_parts (is_value Font face.id && is_request face.request && has_metrics face) (are_ranges_from 33 face.codes) is in
    (and_parts (is_value Font face.id) (is_request face.request)
    ((and_parts (is_value Font face.id && is_request face.request) (has_metrics face) parts.0).0)).1

-- a job can set what each panel has that a valid printer may have
pub CanBeSet-valid : (printer : Printer) → IsTrue (is_valid printer) → CanBeSet printer
unfolding face_at has_face
CanBeSet-valid printer valid panel allowed =
    let parts : Valid printer = valid_parts printer valid in
    record {
      values = has_its_values printer panel valid allowed;
      size = passes-at (λ size. has_size printer.geometries size) printer.sizes panel.size parts.sized allowed.size;
      orientation =
          passes-at (λ orientation. has_orientation printer.geometries orientation) printer.orientations panel.orientation
          parts.turned allowed.orientation;
      sides = passes-at (are_sides printer.has_duplex) printer.sides panel.sides parts.sided allowed.sides;
      tray = passes-at (λ tray. has_tray printer tray) printer.panel_trays panel.tray parts.held allowed.tray;
      request =
          some_and (λ face. IsTrue (is_request face.request)) (face_at printer.faces panel.font)
          (IsSome-find (λ (face : Face). face.id == panel.font) printer.faces
          (passes-at (λ font. has_face printer.faces font) printer.fonts panel.font parts.faced allowed.font))
          (IfSome-find (λ face. IsTrue (is_request face.request))
          (λ (face : Face). face.id == panel.font) is_face printer.faces face_request parts.faces);
    }
