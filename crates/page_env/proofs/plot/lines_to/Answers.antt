use Rattle.std.proofs.Common.{length, ap, ◌∙◌}
use Rattle.pcl_items.specs.Items.{pair}
use Rattle.page_env.specs.Plot.{lines_to}
use Rattle.page_env.proofs.plot.lines_to.Goals as goal

pub returns-in-Some-clause-count : goal.returns-in-Some-clause-count
returns-in-Some-clause-count c = λ line.
    let to = c.in-Some.field-0 in
    ap (λ given. length (lines_to line c.args.pen.now (pair given))) c.in-Some.is
    ∙ c.lines_of.ensures.count line (to.x.units, to.y.units)
