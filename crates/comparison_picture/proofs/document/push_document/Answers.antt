use Rattle.std.proofs.Common.{codes, refl, true}
use Rattle.comparison_picture.specs.Document.{difference_document, document_start, sections, undrawn_part}
use Rattle.comparison_picture.specs.DrawnPages.{compared_pages}
use Rattle.comparison_picture.proofs.Appending.{four_appended}
use Rattle.comparison_picture.proofs.document.push_document.Goals as goal

pub returns : goal.returns
unfolding difference_document
returns g c =
    four_appended c.extend_from_slice.result c.args.text.now.items _ _ _ _ (document_start c.args.sentence.now)
    (sections true (compared_pages c.args.pages.now)) (undrawn_part c.args.undrawn) (codes "</body>\n</html>\n") _
    c.in_ok-push_document_start.ensures c.in_ok-push_sections.ensures c.in_ok-push_undrawn.ensures
    c.extend_from_slice.ensures.items refl
