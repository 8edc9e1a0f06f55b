use Rattle.std.proofs.Common.{◌∙◌, sym}
use Rattle.pcl_items.specs.Items.{amount}
use Rattle.page_env.proofs.FormFacts.{down_goes}
use Rattle.page_env.proofs.forms.move_y_on.Goals as goal

pub returns-clause-goes : goal.returns-clause-goes
returns-clause-goes c = λ printer has.
    let page = c.args.page.now in
    let bounds = c.args.bounds.now in
    down_goes printer page bounds has (amount c.args.n) c.units_on-by.result c.in_ok-here.here c.in_ok-y.y c.units_on-by.ensures.value
    c.in_ok-here.was (sym c.down.ensures ∙ c.in_ok-y.was)
