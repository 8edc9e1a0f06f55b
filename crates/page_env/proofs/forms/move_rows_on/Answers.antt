use Rattle.std.proofs.Common.{◌≡◌, ◌∙◌, pos, Some, sym, ap, rules}
use Rattle.tick_length.specs.declared.unit.Unit.TheVariants.{FortyEighthInch}
use Rattle.pcl_items.specs.Items.{amount}
use Rattle.page_env.specs.Places.{first_line, place_between, target_of, ticks_in, times}
use Rattle.page_env.proofs.FormFacts.{rows_go}
use Rattle.page_env.proofs.forms.move_rows_on.Goals as goal

pub down_from-requires : goal.down_from-requires
down_from-requires c = c.in_ok-by.ensures.small

pub returns-clause-goes : goal.returns-clause-goes
returns-clause-goes c = λ printer has.
    let page = c.args.page.now in
    let bounds = c.args.bounds.now in
    let n = amount c.args.n in
    let vmi = c.in-Known.vmi in
    let whole : times (ticks_in FortyEighthInch vmi) n.ten_thousandths ≡ Some c.in_ok-by.by =
    ap (λ k. times k n.ten_thousandths) (sym c.ticks_in-line.ensures.value) ∙ c.in_ok-by.ensures.value in
    let leads : c.down_from.result
    ≡ place_between (pos 0) bounds.height
    (target_of n.sign (first_line page.env.job.top_margin vmi) c.in_ok-here.here (pos c.in_ok-by.by)) =
    search rules in
    rows_go printer page bounds has n vmi c.in_ok-by.by c.in_ok-here.here c.in_ok-y.y c.in-Known.is c.in_ok-here.was whole
    (sym leads ∙ c.in_ok-y.was)
