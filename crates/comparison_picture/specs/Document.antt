-- The HTML document of pages on which two jobs differ.
use Rattle.std.specs.Prelude.{ℕ, ◌==◌, Bool, true, false, List, [], ◌∷◌, ◌++◌, codes, decimal, if◌then◌else◌}
use Rattle.page_picture.specs.Sheet.{foot_picture}
use Rattle.page_picture.specs.Texts.{sentence_text}
use Rattle.comparison_picture.specs.DrawnPages.{ComparedPage}
use Rattle.comparison_picture.specs.FixedParts.{body_text, filters_text, head_text, legend_text, list_head, style_text}
use Rattle.comparison_picture.specs.Lists.{list_text}
use Rattle.comparison_picture.specs.Sheets.{apart, common_sheet}
use Rattle.comparison_picture.specs.declared.lists.ListForm.TheVariants.{Rows}

-- ---- before the pages

unfoldable pub document_head : List ℕ
document_head = head_text ++ style_text ++ body_text ++ filters_text

-- the head, the sentence, and what stands for what
unfoldable pub document_start : (sentence : List ℕ) → List ℕ
document_start sentence = document_head ++ codes "</svg>\n<p>" ++ sentence_text sentence ++ legend_text

-- ---- the pages

unfoldable pub section_start : (number : ℕ) → List ℕ
section_start number = codes "<section>\n<h2>Page " ++ decimal number ++ codes "</h2>\n<div>\n"

unfoldable pub section_sheet : (has_patterns : Bool) → ComparedPage → List ℕ
section_sheet has_patterns page = common_sheet page false has_patterns ++ apart page ++ foot_picture

unfoldable pub section_list : ComparedPage → List ℕ
section_list page =
    list_head ++ list_text Rows 1_000 page.differences ++ codes "</tbody>\n</table>\n</div>\n</section>\n"

unfoldable pub page_section : (has_patterns : Bool) → ComparedPage → List ℕ
page_section has_patterns page = section_start page.number ++ section_sheet has_patterns page ++ section_list page

-- the first has the patterns of hatched rectangles, whose names stand for one thing in a document
abbrev pub sections : (has_patterns : Bool) → List ComparedPage → List ℕ
sections has_patterns [] = []
sections has_patterns (page ∷ pages) = page_section has_patterns page ++ sections false pages

-- so many pages differ, too, and are not drawn
unfoldable pub undrawn_part : ℕ → List ℕ
undrawn_part undrawn =
    if undrawn == 0 then []
    else codes "<p>Pages that differ, too, and are not drawn: " ++ decimal undrawn ++ codes "</p>\n"

-- ---- all of it

-- the sentence tells what comes of both jobs
unfoldable pub difference_document : List ComparedPage → (undrawn : ℕ) → (sentence : List ℕ) → List ℕ
difference_document pages undrawn sentence =
    document_start sentence ++ sections true pages ++ undrawn_part undrawn ++ codes "</body>\n</html>\n"
