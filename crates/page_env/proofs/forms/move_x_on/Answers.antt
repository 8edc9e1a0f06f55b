use Rattle.std.proofs.Common.{◌∙◌, sym}
use Rattle.pcl_items.specs.Items.{amount}
use Rattle.page_env.proofs.FormFacts.{across_goes}
use Rattle.page_env.proofs.forms.move_x_on.Goals as goal

pub returns-clause-goes : goal.returns-clause-goes
returns-clause-goes c = λ printer has.
    let page = c.args.page.now in
    let bounds = c.args.bounds.now in
    across_goes printer page bounds has (amount c.args.n) c.units_on-by.result c.in_ok-x.x c.units_on-by.ensures.value
    (sym c.across.ensures ∙ c.in_ok-x.was)
