-- What differs first among profiles, of which a job wants the same.
use Rattle.std.specs.Prelude.{ℕ, ◌+◌, ◌==◌, ◌&&◌, not, Bool, false, List, [], ◌∷◌, ◌++◌, codes, decimal, find, Option}
use Rattle.std.specs.Prelude.{None, Some, option_map}
use Rattle.std.specs.List.{list_all, list_any}
use Rattle.std.specs.Option.{option_map_or, option_or}
use Rattle.std.specs.Ordering.{int_eq}
use Rattle.device_profile.specs.declared.field.Field.{Field}
use Rattle.device_profile.specs.declared.field.Field.TheVariants.{Size, Orientation, Vmi, Font, Copies, Sides, Tray}
use Rattle.device_profile.specs.declared.field.Field.TheVariants.{LineTerm}
use Rattle.device_profile.specs.declared.font.FontRequest.{FontRequest}
use Rattle.device_profile.specs.declared.geometry.Geometry.{Geometry}
use Rattle.device_profile.specs.declared.key.Key.TheVariants.{Choice}
use Rattle.device_profile.specs.Faces.{Face, face_at, face_for}
use Rattle.device_profile.specs.Field.{field_key}
use Rattle.device_profile.specs.Printer.{Printer, row_at}
use Rattle.profile_lint.specs.declared.difference.Difference.{Difference}
use Rattle.profile_lint.specs.declared.difference.Difference.TheVariants.{Pages, Faces, Lists}
use Rattle.profile_lint.specs.declared.difference.FirstDifference.{FirstDifference}
use Rattle.profile_lint.specs.declared.hint.Area.TheVariants.{Physical, Logical, Printable}
use Rattle.profile_lint.specs.FaceHints.{are_same_codes}
use Rattle.profile_lint.specs.PageHints.{is_same_area}
use Rattle.profile_lint.specs.Rules.{meaning_of}
use Rattle.shown_bytes.specs.Shown.{shown}

-- two pages are the same in each area
abbrev pub is_same_page : Geometry → Geometry → Bool
is_same_page a b = is_same_area Physical a b && is_same_area Logical a b && is_same_area Printable a b

-- a printer has a page of the same size and orientation, which is not the same
abbrev pub has_other_page : Printer → Geometry → Bool
has_other_page printer page =
    option_map_or (λ other. not (is_same_page page other)) (row_at printer.geometries page.size page.orientation) false

-- two faces have the same numbers and codes
abbrev pub is_same_face : Face → Face → Bool
is_same_face a b =
    int_eq a.advance b.advance && int_eq a.ascent b.ascent && int_eq a.descent b.descent
    && are_same_codes a.codes b.codes

-- a printer has a face of the same request, which is not the same
abbrev pub has_other_face : Printer → Face → Bool
has_other_face printer face =
    option_map_or (λ other. not (is_same_face face other)) (face_for printer.faces face.request) false

-- all of these values are among the others
abbrev pub are_among : List ℕ → List ℕ → Bool
are_among values others = list_all (λ value. list_any (λ other. other == value) others) values

-- the panel of a printer may have a font that answers a request
abbrev pub offers : Printer → FontRequest → Bool
offers printer request =
    option_map_or (λ face. list_any (λ font. font == face.id) printer.fonts) (face_for printer.faces request) false

-- the panel of the second may have a font of the panel of the first, by its request
abbrev pub offers_font_of : Printer → Printer → ℕ → Bool
offers_font_of a b font = option_map_or (λ face. offers b face.request) (face_at a.faces font) false

abbrev pub are_fonts_of : Printer → Printer → Bool
are_fonts_of a b = list_all (λ font. offers_font_of a b font) a.fonts

-- the panels may have the same values in a field, in any order
abbrev pub has_same_values : Printer → Printer → Field → Bool
has_same_values a b Font = are_fonts_of a b && are_fonts_of b a
has_same_values a b Size = are_among a.sizes b.sizes && are_among b.sizes a.sizes
has_same_values a b Orientation = are_among a.orientations b.orientations && are_among b.orientations a.orientations
has_same_values a b Vmi = are_among a.vmis b.vmis && are_among b.vmis a.vmis
has_same_values a b Copies = are_among a.copies b.copies && are_among b.copies a.copies
has_same_values a b Sides = are_among a.sides b.sides && are_among b.sides a.sides
has_same_values a b Tray = are_among a.panel_trays b.panel_trays && are_among b.panel_trays a.panel_trays
has_same_values a b LineTerm =
    are_among a.line_terminations b.line_terminations && are_among b.line_terminations a.line_terminations

-- the fields that are compared
abbrev pub compared_fields : List Field
compared_fields = Size ∷ Orientation ∷ Vmi ∷ Font ∷ Tray ∷ []

abbrev pub page_difference : Printer → Printer → Option Difference
page_difference a b = option_map (λ page. Pages page.size page.orientation) (find (has_other_page b) a.geometries)

abbrev pub face_difference : Printer → Printer → Option Difference
face_difference a b = option_map (λ face. Faces face.id) (find (has_other_face b) a.faces)

abbrev pub list_difference : Printer → Printer → Option Difference
list_difference a b = option_map Lists (find (λ field. not (has_same_values a b field)) compared_fields)

-- what differs first in two: pages, then faces, then lists
unfoldable pub difference_of : Printer → Printer → Option Difference
difference_of a b = option_or (page_difference a b) (option_or (face_difference a b) (list_difference a b))

-- the first of these printers, of which the first has this place, that differs from one
abbrev pub difference_from : ℕ → Printer → List Printer → Option FirstDifference
difference_from place first [] = None
difference_from place first (other ∷ others) =
    option_map_or (λ difference. Some (record { other = place; difference = difference })) (difference_of first other)
    (difference_from (place + 1) first others)

-- the first printer that differs from the very first
abbrev pub first_difference : List Printer → Option FirstDifference
first_difference [] = None
first_difference (first ∷ others) = difference_from 1 first others

-- ---- words

unfoldable pub difference_words : Difference → List ℕ
difference_words (Pages size orientation) =
    codes "their pages of size " ++ decimal size ++ codes " and orientation " ++ decimal orientation
    ++ codes " are not the same: jobs may differ (33)"
difference_words (Faces face) =
    codes "face " ++ decimal face
    ++ codes
    " of the first has other numbers or codes than the face of that request of the other: letters may differ (33) or be missing (14)"
difference_words (Lists field) =
    codes "their lists '" ++ field_key field ++ codes "' are not the same: " ++ meaning_of (Choice field)

unfoldable pub difference_line : List ℕ → List ℕ → Difference → List ℕ
difference_line first other difference =
    shown first ++ codes " and " ++ shown other ++ codes ": hint: " ++ difference_words difference ++ codes "\n"
