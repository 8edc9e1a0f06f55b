use Rattle.std.proofs.Common.{◌≡◌, ◌++◌, flat_map, take}
use Rattle.test_sheet.specs.MeasuredPage.{measured_part}
use Rattle.test_sheet.proofs.measured_page.push_measured_pages.Given as goal

abbrev pub invariant-loop-page : goal.invariant-loop-page
invariant-loop-page g l =
    l.text.items ≡ l.initial.text.items ++ flat_map (measured_part l.name l.face l.sizes) (take l.page-index l.pages)
