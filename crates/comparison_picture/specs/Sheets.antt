-- The sheet of a page: what both jobs have on it gray, and upon that what one of them has alone, in its color.
use Rattle.std.specs.Prelude.{ℕ, Bool, List, ◌++◌, codes}
use Rattle.comparison.specs.declared.compare.Which.TheVariants.{Old, New}
use Rattle.page_picture.specs.Failure.{veil_picture}
use Rattle.page_picture.specs.Sheet.{head_picture}
use Rattle.comparison_picture.specs.DrawnPages.{ComparedPage}
use Rattle.comparison_picture.specs.Marks.{layer_picture}
use Rattle.comparison_picture.specs.declared.marks.Layer.{Layer}
use Rattle.comparison_picture.specs.declared.marks.Layer.TheVariants.{Common, Apart}

unfoldable pub old_layer : Layer → ComparedPage → List ℕ
old_layer layer page = layer_picture layer Old page.old page.differences

unfoldable pub new_layer : Layer → ComparedPage → List ℕ
new_layer layer page = layer_picture layer New page.new page.differences

-- The marks that do not differ, and what makes them gray. They are those of OLD: where marks count as the same that lie
-- near each other, those of NEW lie as near.
unfoldable pub common_sheet : ComparedPage → (has_sentence has_patterns : Bool) → List ℕ
common_sheet page has_sentence has_patterns =
    head_picture page.paper has_sentence has_patterns ++ old_layer Common page ++ veil_picture page.paper

-- the marks of OLD that differ, in its color
unfoldable pub old_group : ComparedPage → List ℕ
old_group page = codes "<g class=\"differs old\">\n" ++ old_layer Apart page ++ codes "</g>\n"

-- the same of NEW
unfoldable pub new_group : ComparedPage → List ℕ
new_group page = codes "<g class=\"differs new\">\n" ++ new_layer Apart page ++ codes "</g>\n"

-- those of OLD, and upon them those of NEW
unfoldable pub apart : ComparedPage → List ℕ
apart page = old_group page ++ new_group page
