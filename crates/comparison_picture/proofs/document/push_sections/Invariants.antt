use Rattle.std.proofs.Common.{◌≡◌, ◌++◌, drop, true}
use Rattle.comparison_picture.specs.Document.{sections}
use Rattle.comparison_picture.specs.DrawnPages.{compared_pages}
use Rattle.comparison_picture.proofs.document.push_sections.Given as goal

abbrev pub invariant-loop-page : goal.invariant-loop-page
invariant-loop-page g l =
    l.text.items ++ sections l.has_patterns (compared_pages (drop l.page-index l.pages))
    ≡ l.initial.text.items ++ sections true (compared_pages l.pages)
