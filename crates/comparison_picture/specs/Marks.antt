-- The marks of a page, in two layers: those that do not differ, and those that do.
use Rattle.std.specs.Prelude.{ℕ, Bool, false, not, List, [], ◌∷◌, ◌++◌, if◌then◌else◌}
use Rattle.comparison.specs.declared.compare.Which.{Which}
use Rattle.page_comparison.specs.declared.differences.PageDifference.{PageDifference}
use Rattle.page_comparison.specs.Pages.{MadeMark}
use Rattle.page_picture.specs.Marks.{mark_picture}
use Rattle.comparison_picture.specs.Differing.{differing}
use Rattle.comparison_picture.specs.declared.marks.Layer.{Layer}
use Rattle.comparison_picture.specs.declared.marks.Layer.TheVariants.{Common, Apart}

-- whether a mark is of the layer, by whether it differs
unfoldable pub is_due : Layer → Bool → Bool
is_due Common differs = not differs
is_due Apart differs = differs

-- it is drawn as the picture of one job draws it, without the box of a character
unfoldable pub due_mark : Layer → Bool → MadeMark → List ℕ
due_mark layer differs mark =
    if is_due layer differs then mark_picture mark.shape false mark.place else []

-- ---- flags

-- whether the first mark differs; without a flag it does not
unfoldable pub first_flag : List Bool → Bool
first_flag [] = false
first_flag (flag ∷ flags) = flag

-- the flags of the marks behind the first
unfoldable pub other_flags : List Bool → List Bool
other_flags [] = []
other_flags (flag ∷ flags) = flags

-- ---- all marks

-- the marks of a layer in their order, by the flags of marks that differ
abbrev pub marks_drawn : Layer → List Bool → List MadeMark → List ℕ
marks_drawn layer flags [] = []
marks_drawn layer flags (mark ∷ marks) =
    due_mark layer (first_flag flags) mark ++ marks_drawn layer (other_flags flags) marks

-- those of a job's page, by the differences of the page
unfoldable pub layer_picture : Layer → Which → List MadeMark → List PageDifference → List ℕ
layer_picture layer which marks differences = marks_drawn layer (differing which marks differences) marks
