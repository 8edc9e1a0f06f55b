use Rattle.std.proofs.Common.{◌≡◌, ◌∙◌, ap, arith}
use Rattle.test_sheet.specs.MeasuredPage.{column_tens}
use Rattle.test_sheet.proofs.Columns.{tens_more}
use Rattle.test_sheet.proofs.measured_page.column_tens.Goals as goal

pub loop-column-preserved : goal.loop-column-preserved
loop-column-preserved g c =
    tens_more c.loop-column.column c.tens_digit.result c.loop-column.tens.items c.push.new.self.items
    c.tens_digit.ensures c.loop-column.invariant c.in_ok-push.ensures.items

pub returns : goal.returns
returns g c =
    let all : c.loop-column.column ≡ c.args.columns = omega arith in
    c.loop-column.invariant ∙ ap column_tens all
