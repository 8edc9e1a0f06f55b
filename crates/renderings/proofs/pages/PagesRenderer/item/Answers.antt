use Rattle.std.proofs.Common.{◌≡◌, ap, ◌∙◌, sym, subst, false, Err, Ok, None, refl, rules}
use Rattle.pcl_items.specs.Items.{at, view}
use Rattle.page_machine.specs.Machine.{CarriesOn, item_of}
use Rattle.streams.specs.declared.error.Error.TheVariants.{Memory}
use Rattle.streams.specs.Errors.{is_write}
use Rattle.renderings.specs.Carriers.PageRendering.{pages_from, RefusesLine, TakesLine}
use Rattle.renderings.specs.Carriers.Rendering.{Ended, StartsWith, RendersItem}
use Rattle.renderings.proofs.PageRenderings.{led_all, tells_finding, tells_item, tells_refused, tells_whole}
use Rattle.renderings.proofs.Renderings.{same_places}
use Rattle.renderings.proofs.pages.PagesRenderer.item.Goals as goal

pub returns-in-Ok-clause-rendered : goal.returns-in-Ok-clause-rendered
returns-in-Ok-clause-rendered g c =
    let sink = c.step.new.sink in
    let took = c.in-Ok.ensures.2 in
    let led = led_all g.W.Outlet.state _ sink took.events c.requires.working took.leads in
    let same_outlet = led.same_outlet in
    let same_kept = led.same_kept in
    let outlet_is : sink.outlet.now ≡ c.outlet-1.given.0 = search rules in
    let kept_is : sink.kept.now ≡ c.kept-1.given.0 = search rules in
    same_places
    (λ outlet kept. RendersItem (pages_from c.args.self.now.machine c.args.self.now.page) (pages_from c.step.new.self sink.page)
    (at c.args.place (view c.args.item.now)) (g.W.Outlet.state c.args.outlet.now)
    (g.W.Outlet.state outlet) c.args.kept.now.items kept.items (Ok None))
    sink.outlet.now c.outlet-1.given.0 sink.kept.now c.kept-1.given.0 outlet_is kept_is
    (tells_item g.W.Outlet.state c.args.self.now.machine _ sink c.requires.working
    (at c.args.place (view c.args.item.now)) c.step.new.self c.in-Ok.ensures.1 took sink.page refl)

pub returns-in-Ok-clause-status : goal.returns-in-Ok-clause-status
returns-in-Ok-clause-status g c =
    let sink = c.step.new.sink in
    let took = c.in-Ok.ensures.2 in
    let led = led_all g.W.Outlet.state _ sink took.events c.requires.working took.leads in
    let same_outlet = led.same_outlet in
    let same_kept = led.same_kept in
    let outlet_is : sink.outlet.now ≡ c.outlet-1.given.0 = search rules in
    subst (λ outlet. (g.W.Outlet.state outlet).failed ≡ false) outlet_is led.working

pub returns-in-Err-Found-clause-rendered : goal.returns-in-Err-Found-clause-rendered
returns-in-Err-Found-clause-rendered g c =
    let sink = c.step.new.sink in
    let is = c.in-Err-Found.is ∙ ap Err c.in-Err-Found.field-0-is in
    let executed =
    subst
    (CarriesOn (TakesLine g.W.Outlet.state) (RefusesLine g.W.Outlet.state)
    (item_of c.args.self.now.machine (view c.args.item.now)) false _ c.step.new.sink c.args.self.now.machine c.step.new.self)
    is c.step.ensures in
    let took = executed.2 in
    let led = led_all g.W.Outlet.state _ sink took.events c.requires.working took.leads in
    let same_outlet = led.same_outlet in
    let same_kept = led.same_kept in
    let outlet_is : sink.outlet.now ≡ c.in-Err-Found.outlet-in-Found-1-own.given.0 = search rules in
    let kept_is : sink.kept.now ≡ c.in-Err-Found.kept-in-Found-1-own.given.0 = search rules in
    same_places
    (λ outlet kept. Ended (pages_from c.args.self.now.machine c.args.self.now.page) (StartsWith (at c.args.place (view c.args.item.now)))
    (g.W.Outlet.state c.args.outlet.now) (g.W.Outlet.state outlet) c.args.kept.now.items kept.items (Ok c.of_finding.result))
    sink.outlet.now c.in-Err-Found.outlet-in-Found-1-own.given.0 sink.kept.now c.in-Err-Found.kept-in-Found-1-own.given.0 outlet_is kept_is
    (subst
    (λ outcome. Ended (pages_from c.args.self.now.machine c.args.self.now.page) (StartsWith (at c.args.place (view c.args.item.now)))
    (g.W.Outlet.state c.args.outlet.now) (g.W.Outlet.state sink.outlet.now) c.args.kept.now.items sink.kept.now.items (Ok outcome))
    (sym c.of_finding.ensures)
    (tells_finding g.W.Outlet.state c.args.self.now.machine _ sink c.requires.working
    (at c.args.place (view c.args.item.now)) c.in-Err-Found.finding took))

pub returns-in-Err-Found-clause-status : goal.returns-in-Err-Found-clause-status
returns-in-Err-Found-clause-status g c =
    let sink = c.step.new.sink in
    let is = c.in-Err-Found.is ∙ ap Err c.in-Err-Found.field-0-is in
    let executed =
    subst
    (CarriesOn (TakesLine g.W.Outlet.state) (RefusesLine g.W.Outlet.state)
    (item_of c.args.self.now.machine (view c.args.item.now)) false _ c.step.new.sink c.args.self.now.machine c.step.new.self)
    is c.step.ensures in
    let took = executed.2 in
    let led = led_all g.W.Outlet.state _ sink took.events c.requires.working took.leads in
    let same_outlet = led.same_outlet in
    let same_kept = led.same_kept in
    let outlet_is : sink.outlet.now ≡ c.in-Err-Found.outlet-in-Found-1-own.given.0 = search rules in
    subst (λ outlet. (g.W.Outlet.state outlet).failed ≡ false) outlet_is led.working

pub returns-in-Err-Refused-clause-rendered : goal.returns-in-Err-Refused-clause-rendered
returns-in-Err-Refused-clause-rendered g c =
    let sink = c.step.new.sink in
    let is = c.in-Err-Refused.is ∙ ap Err c.in-Err-Refused.field-0-is in
    let executed =
    subst
    (CarriesOn (TakesLine g.W.Outlet.state) (RefusesLine g.W.Outlet.state)
    (item_of c.args.self.now.machine (view c.args.item.now)) false _ c.step.new.sink c.args.self.now.machine c.step.new.self)
    is c.step.ensures in
    let refused = executed.2 in
    let led = led_all g.W.Outlet.state _ refused.mid refused.took.events c.requires.working refused.took.leads in
    let same_outlet = refused.refused.0 ∙ led.same_outlet in
    let same_kept = refused.refused.1 ∙ led.same_kept in
    let outlet_is : sink.outlet.now ≡ c.outlet-in-Err-Refused-1.given.0 = search rules in
    let kept_is : sink.kept.now ≡ c.kept-in-Err-Refused-1.given.0 = search rules in
    same_places
    (λ outlet kept. Ended (pages_from c.args.self.now.machine c.args.self.now.page) (StartsWith (at c.args.place (view c.args.item.now)))
    (g.W.Outlet.state c.args.outlet.now) (g.W.Outlet.state outlet) c.args.kept.now.items kept.items (Err c.refusal.result))
    sink.outlet.now c.outlet-in-Err-Refused-1.given.0 sink.kept.now c.kept-in-Err-Refused-1.given.0 outlet_is kept_is
    (tells_refused g.W.Outlet.state c.args.self.now.machine _ sink c.requires.working
    (at c.args.place (view c.args.item.now)) c.refusal.result refused)

pub returns-in-Err-Refused-clause-status : goal.returns-in-Err-Refused-clause-status
returns-in-Err-Refused-clause-status g c =
    let sink = c.step.new.sink in
    let is = c.in-Err-Refused.is ∙ ap Err c.in-Err-Refused.field-0-is in
    let executed =
    subst
    (CarriesOn (TakesLine g.W.Outlet.state) (RefusesLine g.W.Outlet.state)
    (item_of c.args.self.now.machine (view c.args.item.now)) false _ c.step.new.sink c.args.self.now.machine c.step.new.self)
    is c.step.ensures in
    let refused = executed.2 in
    let led = led_all g.W.Outlet.state _ refused.mid refused.took.events c.requires.working refused.took.leads in
    let same_outlet = refused.refused.0 ∙ led.same_outlet in
    let same_kept = refused.refused.1 ∙ led.same_kept in
    let outlet_is : sink.outlet.now ≡ c.outlet-in-Err-Refused-1.given.0 = search rules in
    subst (λ outlet. (g.W.Outlet.state outlet).failed ≡ is_write c.refusal.result) outlet_is c.refusal.ensures.status

pub returns-in-Err-Memory-clause-rendered : goal.returns-in-Err-Memory-clause-rendered
returns-in-Err-Memory-clause-rendered g c =
    let sink = c.step.new.sink in
    let is = c.in-Err-Memory.is ∙ ap Err c.in-Err-Memory.field-0-is in
    let executed =
    subst
    (CarriesOn (TakesLine g.W.Outlet.state) (RefusesLine g.W.Outlet.state)
    (item_of c.args.self.now.machine (view c.args.item.now)) false _ c.step.new.sink c.args.self.now.machine c.step.new.self)
    is c.step.ensures in
    let some = executed.3 in
    let took = some.1 in
    let led = led_all g.W.Outlet.state _ sink took.events c.requires.working took.leads in
    let same_outlet = led.same_outlet in
    let same_kept = led.same_kept in
    let outlet_is : sink.outlet.now ≡ c.outlet-in-Err-Memory-1.given.0 = search rules in
    let kept_is : sink.kept.now ≡ c.kept-in-Err-Memory-1.given.0 = search rules in
    same_places
    (λ outlet kept. Ended (pages_from c.args.self.now.machine c.args.self.now.page) (StartsWith (at c.args.place (view c.args.item.now)))
    (g.W.Outlet.state c.args.outlet.now) (g.W.Outlet.state outlet) c.args.kept.now.items kept.items (Err Memory))
    sink.outlet.now c.outlet-in-Err-Memory-1.given.0 sink.kept.now c.kept-in-Err-Memory-1.given.0 outlet_is kept_is
    (tells_whole g.W.Outlet.state c.args.self.now.machine _ sink c.requires.working (at c.args.place (view c.args.item.now)) Memory some)

pub returns-in-Err-Memory-clause-status : goal.returns-in-Err-Memory-clause-status
returns-in-Err-Memory-clause-status g c =
    let sink = c.step.new.sink in
    let is = c.in-Err-Memory.is ∙ ap Err c.in-Err-Memory.field-0-is in
    let executed =
    subst
    (CarriesOn (TakesLine g.W.Outlet.state) (RefusesLine g.W.Outlet.state)
    (item_of c.args.self.now.machine (view c.args.item.now)) false _ c.step.new.sink c.args.self.now.machine c.step.new.self)
    is c.step.ensures in
    let some = executed.3 in
    let took = some.1 in
    let led = led_all g.W.Outlet.state _ sink took.events c.requires.working took.leads in
    let same_outlet = led.same_outlet in
    let same_kept = led.same_kept in
    let outlet_is : sink.outlet.now ≡ c.outlet-in-Err-Memory-1.given.0 = search rules in
    subst (λ outlet. (g.W.Outlet.state outlet).failed ≡ false) outlet_is led.working
