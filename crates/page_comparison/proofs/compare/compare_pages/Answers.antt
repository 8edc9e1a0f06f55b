use Rattle.std.proofs.Common.{subst}
use Rattle.std.proofs.lemmas.Result.{IfOk-weaker}
use Rattle.device_profile.specs.Printer.{first_panel}
use Rattle.page_comparison.specs.Comparison.{told_pages}
use Rattle.page_comparison.specs.Reading.{IsRight, PagesCompare}
use Rattle.page_comparison.proofs.compare.compare_pages.Goals as goal

pub returns-clause-compared : goal.returns-clause-compared
returns-clause-compared g c =
    let printer = c.args.profile.now in
    let panel = c.first_panel-panel.result in
    let old_now = g.S.Source.state c.args.old_job.now in
    let new_now = g.T.Source.state c.args.new_job.now in
    let old_now' = g.S.Source.state c.compare_all.new.old_job in
    let new_now' = g.T.Source.state c.compare_all.new.new_job in
    let first = c.new-first.result in
    let second = c.new-second.result in
    IfOk-weaker c.compare_all.result
    (λ comparison. PagesCompare c.args.nearness c.args.most old_now old_now' new_now new_now' first second (told_pages comparison))
    (λ comparison. IsRight c.args.nearness c.args.most c.args.number printer (first_panel printer) old_now old_now' new_now new_now'
    (told_pages comparison))
    (λ comparison right.
    subst
    (λ p. IsRight c.args.nearness c.args.most c.args.number printer p old_now old_now' new_now new_now' (told_pages comparison))
    c.first_panel-panel.ensures.value
    (right printer panel c.args.number old_now new_now (c.new-first.ensures.run old_now) (c.new-second.ensures.run new_now)
    c.new-first.ensures.number c.new-second.ensures.number))
    c.compare_all.ensures.compared
