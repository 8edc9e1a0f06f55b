use Rattle.std.proofs.Common.{◌∙◌, pos, sym, ap}
use Rattle.pcl_items.specs.Items.{amount}
use Rattle.page_env.proofs.FormFacts.{units_are, height_goes}
use Rattle.page_env.proofs.forms.set_height_on.Goals as goal

pub returns-clause-goes : goal.returns-clause-goes
returns-clause-goes c = λ printer has.
    let page = c.args.page.now in
    let n = amount c.args.n in
    height_goes printer page n c.length_of-page.result (sym c.is_negative.ensures ∙ c.if-is_negative.false)
    (c.length_of-page.ensures ∙ ap pos (c.units_on.ensures.value ∙ units_are printer page c.args.bounds.now has n))
