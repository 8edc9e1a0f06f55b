-- Pages that are not those of the table of papers.
use Rattle.std.specs.Prelude.{ℕ, ℤ, ◌/◌, ◌==◌, ◌&&◌, Bool, if◌then◌else◌, List, [], ◌∷◌, ◌++◌, Option, find}
use Rattle.std.specs.Prelude.{unsigned_abs}
use Rattle.std.specs.Option.{option_map_or}
use Rattle.std.specs.Ordering.{int_eq}
use Rattle.tick_length.specs.Measures.{ticks_per_7200th}
use Rattle.device_profile.specs.declared.geometry.Geometry.{Geometry}
use Rattle.printer_models.specs.declared.paper.Paper.{Paper}
use Rattle.printer_models.specs.Page.{page_of}
use Rattle.printer_models.specs.Paper.{code_of, every_paper}
use Rattle.profile_lint.specs.declared.hint.Area.{Area}
use Rattle.profile_lint.specs.declared.hint.Area.TheVariants.{Physical, Logical, Printable}
use Rattle.profile_lint.specs.declared.hint.Hint.{Hint}
use Rattle.profile_lint.specs.declared.hint.Hint.TheVariants.{OtherArea}

-- the whole 7200ths of an inch in a length
abbrev pub units_in : ℤ → ℕ
units_in length = unsigned_abs length / ticks_per_7200th

-- the lengths that an area has, as its line gives them
abbrev pub area_lengths : Area → Geometry → List ℤ
area_lengths Physical page = page.page_width ∷ page.page_height ∷ []
area_lengths Logical page = page.logical_left ∷ page.logical_top ∷ page.logical_width ∷ page.logical_height ∷ []
area_lengths Printable page =
    page.printable_left ∷ page.printable_top ∷ page.printable_right ∷ page.printable_bottom ∷ []

-- an area of two pages is the same
abbrev pub is_same_area : Area → Geometry → Geometry → Bool
is_same_area Physical a b = int_eq a.page_width b.page_width && int_eq a.page_height b.page_height
is_same_area Logical a b =
    int_eq a.logical_left b.logical_left && int_eq a.logical_top b.logical_top && int_eq a.logical_width b.logical_width
    && int_eq a.logical_height b.logical_height
is_same_area Printable a b =
    int_eq a.printable_left b.printable_left && int_eq a.printable_top b.printable_top
    && int_eq a.printable_right b.printable_right
    && int_eq a.printable_bottom b.printable_bottom

-- the paper of a size
unfoldable pub paper_of : ℕ → Option Paper
paper_of size = find (λ paper. code_of paper == size) every_paper

-- an area that is not that of the paper
unfoldable pub area_hints : Geometry → Paper → Area → List Hint
area_hints page paper area =
    if is_same_area area page (page_of paper page.orientation) then [] else OtherArea area page paper ∷ []

unfoldable pub paper_hints : Geometry → Paper → List Hint
paper_hints page paper =
    area_hints page paper Physical ++ area_hints page paper Logical ++ area_hints page paper Printable

-- a page of a size that no paper has gives none
unfoldable pub page_hints : Geometry → List Hint
page_hints page = option_map_or (paper_hints page) (paper_of page.size) []
