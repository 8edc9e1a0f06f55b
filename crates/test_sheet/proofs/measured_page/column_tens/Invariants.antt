use Rattle.std.proofs.Common.{◌≡◌}
use Rattle.test_sheet.specs.MeasuredPage.{column_tens}
use Rattle.test_sheet.proofs.measured_page.column_tens.Given as goal

abbrev pub invariant-loop-column : goal.invariant-loop-column
invariant-loop-column g l = l.tens.items ≡ column_tens l.column
