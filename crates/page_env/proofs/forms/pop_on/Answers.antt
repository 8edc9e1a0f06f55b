use Rattle.std.proofs.Common.{sym, ◌∙◌}
use Rattle.pcl_items.specs.Items.{amount}
use Rattle.page_env.proofs.FormFacts.{pop_goes}
use Rattle.page_env.proofs.forms.pop_on.Goals as goal

pub returns-in_default-clause-same : goal.returns-in_default-clause-same
returns-in_default-clause-same c =
    let page = c.args.page.now in
    λ i. record page { stack = (c.in_default.ensures.1 ∙ sym c.in_default.ensures.0) i }

pub returns-clause-goes : goal.returns-clause-goes
returns-clause-goes c = λ printer has.
    pop_goes printer c.args.page.now (amount c.args.n) c.requires.whole c.in-Some.cursor c.pop.new.self c.in-Some.ensures c.requires.pop
