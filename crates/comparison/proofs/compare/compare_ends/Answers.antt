use Rattle.std.proofs.Common.{ap, subst, sym, ◌∙◌}
use Rattle.comparison.specs.Comparing.{EndsCompare, ends_found, further_difference}
use Rattle.comparison.proofs.SoFar.{ends_compare}
use Rattle.comparison.proofs.compare.compare_ends.Goals as goal

pub returns-in-Some-clause-compared : goal.returns-in-Some-clause-compared
returns-in-Some-clause-compared g c =
    let new_now = g.T.Source.state c.args.new_job.now in
    let new_now' = g.T.Source.state c.come.new.new_job in
    let further = c.in-Some.ensures ∙ ap (λ n. further_difference c.args.spot n c.come.new.second) c.place.ensures in
    subst
    (λ found. EndsCompare new_now new_now' c.args.first.now c.args.spot c.args.second.now c.come.new.second found)
    (sym (ap (ends_found c.args.spot) further))
    (ends_compare new_now new_now' c.args.first.now c.args.spot c.args.second.now c.come.new.second c.in_ok-come.ensures.run
    c.requires.over c.in_ok-come.ensures.came)

pub returns-in-None-clause-compared : goal.returns-in-None-clause-compared
returns-in-None-clause-compared g c =
    let new_now = g.T.Source.state c.args.new_job.now in
    let new_now' = g.T.Source.state c.come.new.new_job in
    let further = c.in-None.ensures ∙ ap (λ n. further_difference c.args.spot n c.come.new.second) c.place.ensures in
    subst
    (λ found. EndsCompare new_now new_now' c.args.first.now c.args.spot c.args.second.now c.come.new.second found)
    (sym (ap (ends_found c.args.spot) further))
    (ends_compare new_now new_now' c.args.first.now c.args.spot c.args.second.now c.come.new.second c.in_ok-come.ensures.run
    c.requires.over c.in_ok-come.ensures.came)
