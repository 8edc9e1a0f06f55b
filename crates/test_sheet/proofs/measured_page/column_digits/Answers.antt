use Rattle.std.proofs.Common.{◌≡◌, ◌∙◌, ap, arith}
use Rattle.test_sheet.specs.MeasuredPage.{column_digits}
use Rattle.test_sheet.proofs.Columns.{digits_more}
use Rattle.test_sheet.proofs.measured_page.column_digits.Goals as goal

pub loop-column-preserved : goal.loop-column-preserved
loop-column-preserved g c =
    digits_more c.loop-column.column c.digit.result c.loop-column.digits.items c.push.new.self.items
    c.digit.ensures c.loop-column.invariant c.in_ok-push.ensures.items

pub returns : goal.returns
returns g c =
    let all : c.loop-column.column ≡ c.args.columns = omega arith in
    c.loop-column.invariant ∙ ap column_digits all
