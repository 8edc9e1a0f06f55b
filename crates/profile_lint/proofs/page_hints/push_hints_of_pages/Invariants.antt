use Rattle.std.proofs.Common.{◌≡◌, ◌++◌, flat_map, take}
use Rattle.profile_lint.specs.PageHints.{page_hints}
use Rattle.profile_lint.proofs.page_hints.push_hints_of_pages.Given as goal

abbrev pub invariant-loop-page : goal.invariant-loop-page
invariant-loop-page g l = l.hints.items ≡ l.initial.hints.items ++ flat_map page_hints (take l.page-index l.pages)
