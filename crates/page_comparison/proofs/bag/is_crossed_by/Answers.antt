use Rattle.std.proofs.Common.{◌||◌, ap, rules, sym, take_all, ◌∙◌}
use Rattle.std.specs.List.{list_any}
use Rattle.std.proofs.lemmas.List.Folds.{list_any_at, list_any_more}
use Rattle.page_comparison.specs.AnyOrder.{is_crossed}
use Rattle.page_comparison.proofs.bag.is_crossed_by.Goals as goal

pub returns-then-crosses : goal.returns-then-crosses
returns-then-crosses c =
    sym
    (list_any_at (is_crossed c.args.place c.args.footprint.now) c.args.earlier.now c.loop-matched.matched-index _ (search rules)
    (sym c.crosses.ensures ∙ c.if-crosses.true))

pub loop-matched-preserved : goal.loop-matched-preserved
loop-matched-preserved c =
    let test = sym c.crosses.ensures ∙ c.if-crosses.false in
    let so_far = c.loop-matched.invariant in
    list_any_more (is_crossed c.args.place c.args.footprint.now) c.args.earlier.now c.loop-matched.matched-index _ (search rules)
    ∙ (λ i. so_far i || test i)

pub returns : goal.returns
returns c =
    sym
    (ap (list_any (is_crossed c.args.place c.args.footprint.now))
    (sym (take_all c.loop-matched.matched-index c.args.earlier.now c.loop-matched-test.false))
    ∙ c.loop-matched.invariant)
