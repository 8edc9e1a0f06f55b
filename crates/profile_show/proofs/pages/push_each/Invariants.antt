use Rattle.std.proofs.Common.{◌≡◌, ◌++◌, flat_map, take}
use Rattle.profile_show.specs.Pages.{page_lines}
use Rattle.profile_show.proofs.pages.push_each.Given as goal

abbrev pub invariant-loop-page : goal.invariant-loop-page
invariant-loop-page g l = l.text.items ≡ l.initial.text.items ++ flat_map (page_lines l.profile.geometries) (take l.page-index l.pages)
