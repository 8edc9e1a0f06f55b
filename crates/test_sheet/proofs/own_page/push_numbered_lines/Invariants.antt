use Rattle.std.proofs.Common.{◌≡◌, ◌++◌, take}
use Rattle.std.specs.List.{flat_map}
use Rattle.test_sheet.specs.OwnPage.{numbered_line}
use Rattle.test_sheet.proofs.own_page.push_numbered_lines.Given as goal

abbrev pub invariant-loop-number : goal.invariant-loop-number
invariant-loop-number g l =
    l.text.items ≡ l.initial.text.items
    ++ flat_map (numbered_line l.area l.face l.termination) (take l.number-index l.numbers)
