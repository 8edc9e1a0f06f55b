-- Pages on which two jobs differ, as they are drawn.
use Rattle.std.specs.Prelude.{ℕ, ℤ, int_le, List, Option, None, Some, map, if◌then◌else◌}
use Rattle.device_profile.specs.declared.geometry.Geometry.{Geometry}
use Rattle.device_profile.specs.Printer.{geometry_at}
use Rattle.page_env.specs.declared.mark.PageEnd.{PageEnd}
use Rattle.page_comparison.specs.declared.differences.PageDifference.{PageDifference}
use Rattle.page_comparison.specs.Pages.{MadeMark, made_marks}
use Rattle.comparison_picture.specs.declared.drawn_page.DrawnPage.{DrawnPage}

-- a page on which two jobs differ, without where it lies in memory
pub record ComparedPage : Type 0 where
  pub number : ℕ
  pub paper : Geometry
  pub old : List MadeMark
  pub new : List MadeMark
  pub differences : List PageDifference

abbrev pub compared_page : {A : Type 0} → DrawnPage A → ComparedPage
compared_page page = record {
  number = page.number;
  paper = page.paper;
  old = made_marks page.old.now.marks.items;
  new = made_marks page.new.now.marks.items;
  differences = page.differences.items;
}

abbrev pub compared_pages : {A : Type 0} → List (DrawnPage A) → List ComparedPage
compared_pages pages = map compared_page pages

abbrev pub longer : ℤ → ℤ → ℤ
longer one other = if int_le one other then other else one

-- a paper, as wide and as high as holds another one too
abbrev pub holding : Geometry → Geometry → Geometry
holding paper other = record paper {
  page_width = longer paper.page_width other.page_width;
  page_height = longer paper.page_height other.page_height;
}

-- the paper of a page by the values with which it ends: of a page that both have OLD's, which holds NEW's too
abbrev pub paper_at : List Geometry → (old_end new_end : Option PageEnd) → Geometry
paper_at geometries (Some old_end) (Some new_end) =
    holding (geometry_at geometries old_end.size old_end.orientation)
    (geometry_at geometries new_end.size new_end.orientation)
paper_at geometries (Some end) None = geometry_at geometries end.size end.orientation
paper_at geometries None (Some end) = geometry_at geometries end.size end.orientation
paper_at geometries None None = geometry_at geometries 0 0
