use Rattle.std.proofs.Common.{◌≡◌, ◌≤◌, List, ℕ, length, arith, subst}
use Rattle.std.proofs.lemmas.Bool.{not-false, not-true}
use Rattle.survey.specs.Carriers.Steps.{IsStep, standing_view}
use Rattle.survey.proofs.Surveyors.{step_less, step_no_more, step_surveyed, step_total, step_waits}
use Rattle.survey.proofs.surveyor.Surveyor.step.Goals as goal

pub invariant_of-self : goal.invariant_of-self
invariant_of-self g c =
    let l = c.self.inside in
    let before = c.self.invariant in
    let h : IsStep c.args.whole (standing_view l.standing) l.dropped l.at l.window.items c.step_at-step.result =
    subst (λ (window : List ℕ). IsStep c.args.whole (standing_view l.standing) l.dropped l.at window c.step_at-step.result)
    c.as_slice-window.ensures.value c.step_at-step.ensures in
    (omega (arith, h.inside, l.window.ok.0), before.1, before.2, h.counts)

pub returns-clause-surveyed : goal.returns-clause-surveyed
returns-clause-surveyed g c =
    let l = c.self.inside in
    let h : IsStep c.args.whole (standing_view l.standing) l.dropped l.at l.window.items c.step_at-step.result =
    subst (λ (window : List ℕ). IsStep c.args.whole (standing_view l.standing) l.dropped l.at window c.step_at-step.result)
    c.as_slice-window.ensures.value c.step_at-step.ensures in
    step_surveyed c.args.whole c.args.self.now c.count.new.self l.job l.table l.standing l.dropped l.at l.window.items
    c.step_at-step.result c.self.view_is h c.in_ok-count.ensures

pub returns-clause-less : goal.returns-clause-less
returns-clause-less g c = λ goes.
    let l = c.self.inside in
    let h : IsStep c.args.whole (standing_view l.standing) l.dropped l.at l.window.items c.step_at-step.result =
    subst (λ (window : List ℕ). IsStep c.args.whole (standing_view l.standing) l.dropped l.at window c.step_at-step.result)
    c.as_slice-window.ensures.value c.step_at-step.ensures in
    step_less c.args.whole c.args.self.now c.count.new.self l.job l.table l.standing l.dropped l.at l.window.items
    c.step_at-step.result c.self.view_is h c.in_ok-count.ensures (not-true c.step_at-step.result.waits (cc))

pub returns-clause-no_more : goal.returns-clause-no_more
returns-clause-no_more g c =
    let l = c.self.inside in
    let h : IsStep c.args.whole (standing_view l.standing) l.dropped l.at l.window.items c.step_at-step.result =
    subst (λ (window : List ℕ). IsStep c.args.whole (standing_view l.standing) l.dropped l.at window c.step_at-step.result)
    c.as_slice-window.ensures.value c.step_at-step.ensures in
    step_no_more c.args.whole c.args.self.now c.count.new.self l.job l.table l.standing l.dropped l.at l.window.items
    c.step_at-step.result c.self.view_is h c.in_ok-count.ensures

pub returns-clause-waits : goal.returns-clause-waits
returns-clause-waits g c = λ waits.
    let l = c.self.inside in
    let h : IsStep c.args.whole (standing_view l.standing) l.dropped l.at l.window.items c.step_at-step.result =
    subst (λ (window : List ℕ). IsStep c.args.whole (standing_view l.standing) l.dropped l.at window c.step_at-step.result)
    c.as_slice-window.ensures.value c.step_at-step.ensures in
    step_waits c.args.whole c.args.self.now c.count.new.self l.job l.table l.standing l.dropped l.at l.window.items
    c.step_at-step.result c.self.view_is h c.in_ok-count.ensures (not-false c.step_at-step.result.waits (cc))

pub returns-clause-total : goal.returns-clause-total
returns-clause-total g c =
    let l = c.self.inside in
    let h : IsStep c.args.whole (standing_view l.standing) l.dropped l.at l.window.items c.step_at-step.result =
    subst (λ (window : List ℕ). IsStep c.args.whole (standing_view l.standing) l.dropped l.at window c.step_at-step.result)
    c.as_slice-window.ensures.value c.step_at-step.ensures in
    let inside : l.at ≤ length l.window.items = omega (arith, l.window.ok.0, c.self.invariant.0) in
    step_total c.args.whole c.args.self.now c.count.new.self l.job l.table l.standing l.dropped l.at l.window.items
    c.step_at-step.result c.self.view_is h c.in_ok-count.ensures inside
