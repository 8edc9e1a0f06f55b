use Rattle.std.proofs.Common.{◌≡◌, [], ap, ◌∙◌, sym, subst, true, false, Err, Ok, rules}
use Rattle.pcl_lexer.specs.Reading.{Whole}
use Rattle.page_env.specs.Settings.{state_at}
use Rattle.page_machine.specs.Machine.{CarriesOn, end_of}
use Rattle.renderings.specs.declared.outcome.Outcome.TheVariants.{Done}
use Rattle.streams.specs.Errors.{is_write}
use Rattle.renderings.specs.Carriers.PageRendering.{pages_from, RefusesLine, TakesLine}
use Rattle.renderings.specs.Carriers.Rendering.{Ended}
use Rattle.renderings.proofs.PageRenderings.{led_all, tells_end, tells_end_finding, tells_end_refused}
use Rattle.renderings.proofs.Renderings.{same_places}
use Rattle.renderings.proofs.pages.PagesRenderer.end.Goals as goal

pub returns-in-Ok-clause-rendered : goal.returns-in-Ok-clause-rendered
returns-in-Ok-clause-rendered g c =
    let sink = c.finish.new.sink in
    let took = c.in-Ok.ensures.2 in
    let led = led_all g.W.Outlet.state _ sink took.events c.requires.working took.leads in
    let same_outlet = led.same_outlet in
    let same_kept = led.same_kept in
    let outlet_is : sink.outlet.now ≡ c.outlet-1.given.0 = search rules in
    let kept_is : sink.kept.now ≡ c.kept-1.given.0 = search rules in
    same_places
    (λ outlet kept. Ended (pages_from c.args.self.now.machine c.args.self.now.page) (λ reading. reading ≡ Whole [] c.args.place)
    (g.W.Outlet.state c.args.outlet.now) (g.W.Outlet.state outlet) c.args.kept.now.items kept.items (Ok Done))
    sink.outlet.now c.outlet-1.given.0 sink.kept.now c.kept-1.given.0 outlet_is kept_is
    (tells_end g.W.Outlet.state c.args.self.now.machine _ sink c.requires.working c.args.place
    (λ panel. state_at panel c.finish.new.self.page) took)

pub returns-in-Ok-clause-status : goal.returns-in-Ok-clause-status
returns-in-Ok-clause-status g c =
    let sink = c.finish.new.sink in
    let took = c.in-Ok.ensures.2 in
    let led = led_all g.W.Outlet.state _ sink took.events c.requires.working took.leads in
    let same_outlet = led.same_outlet in
    let same_kept = led.same_kept in
    let outlet_is : sink.outlet.now ≡ c.outlet-1.given.0 = search rules in
    subst (λ outlet. (g.W.Outlet.state outlet).failed ≡ false) outlet_is led.working

pub returns-in-Err-Found-clause-rendered : goal.returns-in-Err-Found-clause-rendered
returns-in-Err-Found-clause-rendered g c =
    let sink = c.finish.new.sink in
    let is = c.in-Err-Found.is ∙ ap Err c.in-Err-Found.field-0-is in
    let executed =
    subst
    (CarriesOn (TakesLine g.W.Outlet.state) (RefusesLine g.W.Outlet.state)
    (end_of c.args.self.now.machine) true _ c.finish.new.sink c.args.self.now.machine c.finish.new.self)
    is c.finish.ensures in
    let took = executed.2 in
    let led = led_all g.W.Outlet.state _ sink took.events c.requires.working took.leads in
    let same_outlet = led.same_outlet in
    let same_kept = led.same_kept in
    let outlet_is : sink.outlet.now ≡ c.in-Err-Found.outlet-in-Found-1-own.given.0 = search rules in
    let kept_is : sink.kept.now ≡ c.in-Err-Found.kept-in-Found-1-own.given.0 = search rules in
    same_places
    (λ outlet kept. Ended (pages_from c.args.self.now.machine c.args.self.now.page) (λ reading. reading ≡ Whole [] c.args.place)
    (g.W.Outlet.state c.args.outlet.now) (g.W.Outlet.state outlet) c.args.kept.now.items kept.items (Ok c.of_finding.result))
    sink.outlet.now c.in-Err-Found.outlet-in-Found-1-own.given.0 sink.kept.now c.in-Err-Found.kept-in-Found-1-own.given.0 outlet_is kept_is
    (subst
    (λ outcome. Ended (pages_from c.args.self.now.machine c.args.self.now.page) (λ reading. reading ≡ Whole [] c.args.place)
    (g.W.Outlet.state c.args.outlet.now) (g.W.Outlet.state sink.outlet.now) c.args.kept.now.items sink.kept.now.items (Ok outcome))
    (sym c.of_finding.ensures)
    (tells_end_finding g.W.Outlet.state c.args.self.now.machine _ sink c.requires.working c.args.place c.in-Err-Found.finding took))

pub returns-in-Err-Found-clause-status : goal.returns-in-Err-Found-clause-status
returns-in-Err-Found-clause-status g c =
    let sink = c.finish.new.sink in
    let is = c.in-Err-Found.is ∙ ap Err c.in-Err-Found.field-0-is in
    let executed =
    subst
    (CarriesOn (TakesLine g.W.Outlet.state) (RefusesLine g.W.Outlet.state)
    (end_of c.args.self.now.machine) true _ c.finish.new.sink c.args.self.now.machine c.finish.new.self)
    is c.finish.ensures in
    let took = executed.2 in
    let led = led_all g.W.Outlet.state _ sink took.events c.requires.working took.leads in
    let same_outlet = led.same_outlet in
    let same_kept = led.same_kept in
    let outlet_is : sink.outlet.now ≡ c.in-Err-Found.outlet-in-Found-1-own.given.0 = search rules in
    subst (λ outlet. (g.W.Outlet.state outlet).failed ≡ false) outlet_is led.working

pub returns-in-Err-Refused-clause-rendered : goal.returns-in-Err-Refused-clause-rendered
returns-in-Err-Refused-clause-rendered g c =
    let sink = c.finish.new.sink in
    let is = c.in-Err-Refused.is ∙ ap Err c.in-Err-Refused.field-0-is in
    let executed =
    subst
    (CarriesOn (TakesLine g.W.Outlet.state) (RefusesLine g.W.Outlet.state)
    (end_of c.args.self.now.machine) true _ c.finish.new.sink c.args.self.now.machine c.finish.new.self)
    is c.finish.ensures in
    let refused = executed.2 in
    let led = led_all g.W.Outlet.state _ refused.mid refused.took.events c.requires.working refused.took.leads in
    let same_outlet = refused.refused.0 ∙ led.same_outlet in
    let same_kept = refused.refused.1 ∙ led.same_kept in
    let outlet_is : sink.outlet.now ≡ c.outlet-in-Err-Refused-1.given.0 = search rules in
    let kept_is : sink.kept.now ≡ c.kept-in-Err-Refused-1.given.0 = search rules in
    same_places
    (λ outlet kept. Ended (pages_from c.args.self.now.machine c.args.self.now.page) (λ reading. reading ≡ Whole [] c.args.place)
    (g.W.Outlet.state c.args.outlet.now) (g.W.Outlet.state outlet) c.args.kept.now.items kept.items (Err c.refusal.result))
    sink.outlet.now c.outlet-in-Err-Refused-1.given.0 sink.kept.now c.kept-in-Err-Refused-1.given.0 outlet_is kept_is
    (tells_end_refused g.W.Outlet.state c.args.self.now.machine _ sink c.requires.working c.args.place c.refusal.result refused)

pub returns-in-Err-Refused-clause-status : goal.returns-in-Err-Refused-clause-status
returns-in-Err-Refused-clause-status g c =
    let sink = c.finish.new.sink in
    let is = c.in-Err-Refused.is ∙ ap Err c.in-Err-Refused.field-0-is in
    let executed =
    subst
    (CarriesOn (TakesLine g.W.Outlet.state) (RefusesLine g.W.Outlet.state)
    (end_of c.args.self.now.machine) true _ c.finish.new.sink c.args.self.now.machine c.finish.new.self)
    is c.finish.ensures in
    let refused = executed.2 in
    let led = led_all g.W.Outlet.state _ refused.mid refused.took.events c.requires.working refused.took.leads in
    let same_outlet = refused.refused.0 ∙ led.same_outlet in
    let same_kept = refused.refused.1 ∙ led.same_kept in
    let outlet_is : sink.outlet.now ≡ c.outlet-in-Err-Refused-1.given.0 = search rules in
    subst (λ outlet. (g.W.Outlet.state outlet).failed ≡ is_write c.refusal.result) outlet_is c.refusal.ensures.status
