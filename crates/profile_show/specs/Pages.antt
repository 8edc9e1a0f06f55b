-- What is shown of the pages.
use Rattle.std.specs.Prelude.{ℕ, ℤ, ◌==◌, ◌&&◌, nat_le, Bool, false, if◌then◌else◌, List, [], ◌++◌, flat_map, codes}
use Rattle.std.specs.Ordering.{int_eq}
use Rattle.std.specs.Option.{option_map_or}
use Rattle.device_profile.specs.declared.geometry.Geometry.{Geometry}
use Rattle.device_profile.specs.Printer.{row_at}
use Rattle.profile_show.specs.declared.figures.LengthUnit.{LengthUnit}
use Rattle.profile_show.specs.declared.figures.LengthUnit.TheVariants.{Millimetres, Inches, Dots}
use Rattle.profile_show.specs.Figures.{length_in, sides_in}
use Rattle.profile_show.specs.declared.label.Label.TheVariants.{Pages, LogicalPage, FromLeft, FromTop, PrintableArea}
use Rattle.profile_show.specs.Label.{label}
use Rattle.profile_show.specs.Words.{size_words, orientation_words}

-- the orientation in which the sheet stands on its head
abbrev pub reverse_of : ℕ → ℕ
reverse_of orientation =
    if orientation == 0 then 2 else (if orientation == 1 then 3 else (if orientation == 2 then 0 else 1))

-- the two have the same lengths
abbrev pub has_same_lengths : Geometry → Geometry → Bool
has_same_lengths a b =
    int_eq a.page_width b.page_width && int_eq a.page_height b.page_height
    && int_eq a.logical_left b.logical_left && int_eq a.logical_top b.logical_top
    && int_eq a.logical_width b.logical_width && int_eq a.logical_height b.logical_height
    && int_eq a.printable_left b.printable_left && int_eq a.printable_top b.printable_top
    && int_eq a.printable_right b.printable_right && int_eq a.printable_bottom b.printable_bottom

-- whether its size has a page of these lengths in the reverse orientation too
unfoldable pub is_same_reversed : List Geometry → Geometry → Bool
is_same_reversed pages page =
    option_map_or (has_same_lengths page) (row_at pages page.size (reverse_of page.orientation)) false

-- the orientations for which the lines of a page stand
unfoldable pub orientations_words : Bool → Geometry → List ℕ
orientations_words is_both page =
    orientation_words page.orientation
    ++ (if is_both then codes " and " ++ orientation_words (reverse_of page.orientation) else [])

-- the sides of the physical page, and what follows
abbrev pub sheet_words : LengthUnit → Geometry → List ℕ → List ℕ
sheet_words unit page behind = sides_in unit page.page_width page.page_height ++ behind

unfoldable pub page_line : Geometry → List ℕ
page_line page =
    codes "    page: " ++ sheet_words Millimetres page (codes ", ")
    ++ sheet_words Inches page (codes ", ") ++ sheet_words Dots page (codes "\n")

-- a place on the page
unfoldable pub place_words : ℤ → ℤ → List ℕ
place_words left top = length_in Dots left ++ label FromLeft ++ length_in Dots top ++ label FromTop

unfoldable pub logical_line : Geometry → List ℕ
logical_line page =
    label LogicalPage ++ sides_in Dots page.logical_width page.logical_height
    ++ codes ", " ++ place_words page.logical_left page.logical_top ++ codes "\n"

-- from the one to the other
unfoldable pub span_words : ℤ → ℤ → List ℕ
span_words first last = length_in Dots first ++ codes " to " ++ length_in Dots last

unfoldable pub printable_line : Geometry → List ℕ
printable_line page =
    label PrintableArea ++ span_words page.printable_left page.printable_right
    ++ codes " across, " ++ span_words page.printable_top page.printable_bottom ++ codes " down\n"

unfoldable pub page_heading : Bool → Geometry → List ℕ
page_heading is_both page =
    codes "  " ++ size_words page.size ++ codes ", " ++ orientations_words is_both page ++ codes ":\n"

-- the lines of a page
unfoldable pub lines_of : Bool → Geometry → List ℕ
lines_of is_both page = page_heading is_both page ++ page_line page ++ logical_line page ++ printable_line page

-- a reverse page has none, where it has the lengths of the other, whose lines stand for both
unfoldable pub page_lines : List Geometry → Geometry → List ℕ
page_lines pages page =
    if nat_le 2 page.orientation && is_same_reversed pages page then [] else lines_of (is_same_reversed pages page) page

unfoldable pub pages_lines : List Geometry → List ℕ
pages_lines pages = label Pages ++ flat_map (page_lines pages) pages
