use Rattle.std.proofs.Common.{◌≡◌}
use Rattle.test_sheet.specs.MeasuredPage.{column_digits}
use Rattle.test_sheet.proofs.measured_page.column_digits.Given as goal

abbrev pub invariant-loop-column : goal.invariant-loop-column
invariant-loop-column g l = l.digits.items ≡ column_digits l.column
