use Rattle.std.proofs.Common.{◌≡◌, ◌++◌, replicate}
use Rattle.test_sheet.proofs.own_page.push_spaces.Given as goal

abbrev pub invariant-loop-column : goal.invariant-loop-column
invariant-loop-column g l = l.text.items ≡ l.initial.text.items ++ replicate l._column 32
