use Rattle.std.proofs.Common.{◌≡◌, ◌∙◌, Some, sym, ap}
use Rattle.tick_length.specs.declared.unit.Unit.TheVariants.{HundredTwentiethInch}
use Rattle.pcl_items.specs.Items.{amount}
use Rattle.page_env.specs.Places.{ticks_in, times}
use Rattle.page_env.proofs.FormFacts.{columns_go}
use Rattle.page_env.proofs.forms.move_columns_on.Goals as goal

pub across-requires : goal.across-requires
across-requires c = c.in_ok-by.ensures.small

pub returns-clause-goes : goal.returns-clause-goes
returns-clause-goes c = λ printer has.
    let page = c.args.page.now in
    let bounds = c.args.bounds.now in
    let n = amount c.args.n in
    let whole : times (ticks_in HundredTwentiethInch c.in_ok-hmi.hmi) n.ten_thousandths ≡ Some c.in_ok-by.by =
    ap (λ k. times k n.ten_thousandths) (sym c.ticks_in-column.ensures.value) ∙ c.in_ok-by.ensures.value in
    columns_go printer page bounds has n c.in_ok-hmi.hmi c.in_ok-by.by c.in_ok-x.x c.in_ok-hmi.was whole
    (sym c.across.ensures ∙ c.in_ok-x.was)
