use Rattle.std.proofs.Common.{◌≡◌, ◌++◌, drop, map}
use Rattle.comparison_picture.specs.DrawnPages.{compared_pages}
use Rattle.page_comparison.specs.Pages.{made_pair}
use Rattle.compare_command.specs.Pictures.{drawn_pages}
use Rattle.compare_command.proofs.picture.drawn_pages.Given as goal

abbrev pub invariant-loop-pair : goal.invariant-loop-pair
invariant-loop-pair l =
    compared_pages l.pages.items ++ drawn_pages l.nearness l.profile (map made_pair (drop l.pair-index l.pairs))
    ≡ drawn_pages l.nearness l.profile (map made_pair l.pairs)
