use Rattle.std.proofs.Common.{◌≡◌, ◌++◌, take}
use Rattle.std.specs.List.{flat_map}
use Rattle.test_sheet.specs.MeasuredPage.{spaced_line}
use Rattle.test_sheet.proofs.measured_page.push_spaced_lines.Given as goal

abbrev pub invariant-loop-number : goal.invariant-loop-number
invariant-loop-number g l =
    l.text.items ≡ l.initial.text.items ++ flat_map (spaced_line l.area l.face) (take l.number-index l.numbers)
