use Rattle.std.proofs.Common.{◌≡◌, ◌∙◌, ap, subst, false, Err, rules}
use Rattle.pcl_items.specs.Items.{view}
use Rattle.page_env.specs.Settings.{state_at}
use Rattle.page_machine.specs.Machine.{CarriesOn, item_of}
use Rattle.page_machine.specs.Run.{Done, Halts}
use Rattle.renderings.specs.Carriers.PageRendering.{any_panel}
use Rattle.job_pdf.specs.Carriers.Drawing.{Draws, DrawsFront, RefusesPart, TakesPart}
use Rattle.job_pdf.proofs.Led.{led_all, draws_all, draws_whole, draws_refused, same_three}
use Rattle.job_pdf.proofs.drawing.step_on.Goals as goal

pub returns-in-Ok-clause-steps : goal.returns-in-Ok-clause-steps
returns-in-Ok-clause-steps g c =
    let sink = c.step.new.sink in
    let took = c.in-Ok.ensures.2 in
    let led = led_all g.W.Outlet.state _ sink took.events c.requires.working took.leads in
    let same_outlet = led.same_outlet in
    let same_kept = led.same_kept in
    let outlet_is : sink.outlet.now ≡ c.outlet-1.given.0 = search rules in
    let kept_is : sink.kept.now ≡ c.kept-1.given.0 = search rules in
    let same_document = led.same_document in
    let document_is : sink.document.now ≡ c.document-1.given.0 = search rules in (
      c.in-Ok.ensures.1,
      same_three
          (λ outlet kept document. Draws c.args.sheet.now ((item_of c.args.machine.now (view c.args.item.now)).run any_panel)
          (Done (state_at any_panel c.step.new.self.page)) (g.W.Outlet.state c.args.outlet.now)
          (g.W.Outlet.state outlet) c.args.kept.now.items kept.items c.args.document.now document)
          sink.outlet.now c.outlet-1.given.0 sink.kept.now c.kept-1.given.0 sink.document.now c.document-1.given.0
          outlet_is kept_is document_is
          (draws_all g.W.Outlet.state _ sink (item_of c.args.machine.now (view c.args.item.now)).run c.requires.working
          (λ panel. (Done (state_at panel c.step.new.self.page))) took),
    )

pub returns-in-Ok-clause-status : goal.returns-in-Ok-clause-status
returns-in-Ok-clause-status g c =
    let sink = c.step.new.sink in
    let took = c.in-Ok.ensures.2 in
    let led = led_all g.W.Outlet.state _ sink took.events c.requires.working took.leads in
    let same_outlet = led.same_outlet in
    let same_kept = led.same_kept in
    let outlet_is : sink.outlet.now ≡ c.outlet-1.given.0 = search rules in
    subst (λ outlet. (g.W.Outlet.state outlet).failed ≡ false) outlet_is led.working

pub returns-in-Err-Found-clause-steps : goal.returns-in-Err-Found-clause-steps
returns-in-Err-Found-clause-steps g c =
    let sink = c.step.new.sink in
    let is = c.in-Err-Found.is ∙ ap Err c.in-Err-Found.field-0-is in
    let executed =
    subst
    (CarriesOn (TakesPart g.W.Outlet.state) (RefusesPart g.W.Outlet.state)
    (item_of c.args.machine.now (view c.args.item.now)) false _ c.step.new.sink c.args.machine.now c.step.new.self)
    is c.step.ensures in
    let took = executed.2 in
    let led = led_all g.W.Outlet.state _ sink took.events c.requires.working took.leads in
    let same_outlet = led.same_outlet in
    let same_kept = led.same_kept in
    let outlet_is : sink.outlet.now ≡ c.outlet-1.given.0 = search rules in
    let kept_is : sink.kept.now ≡ c.kept-1.given.0 = search rules in
    let same_document = led.same_document in
    let document_is : sink.document.now ≡ c.document-1.given.0 = search rules in
    same_three
    (λ outlet kept document.
    Draws c.args.sheet.now ((item_of c.args.machine.now (view c.args.item.now)).run any_panel) (Halts c.in-Err-Found.finding)
    (g.W.Outlet.state c.args.outlet.now) (g.W.Outlet.state outlet) c.args.kept.now.items kept.items c.args.document.now document)
    sink.outlet.now c.outlet-1.given.0 sink.kept.now c.kept-1.given.0 sink.document.now
    c.document-1.given.0
    outlet_is kept_is document_is
    (draws_all g.W.Outlet.state _ sink (item_of c.args.machine.now (view c.args.item.now)).run c.requires.working
    (λ panel. (Halts c.in-Err-Found.finding)) took)

pub returns-in-Err-Found-clause-status : goal.returns-in-Err-Found-clause-status
returns-in-Err-Found-clause-status g c =
    let sink = c.step.new.sink in
    let is = c.in-Err-Found.is ∙ ap Err c.in-Err-Found.field-0-is in
    let executed =
    subst
    (CarriesOn (TakesPart g.W.Outlet.state) (RefusesPart g.W.Outlet.state)
    (item_of c.args.machine.now (view c.args.item.now)) false _ c.step.new.sink c.args.machine.now c.step.new.self)
    is c.step.ensures in
    let took = executed.2 in
    let led = led_all g.W.Outlet.state _ sink took.events c.requires.working took.leads in
    let same_outlet = led.same_outlet in
    let same_kept = led.same_kept in
    let outlet_is : sink.outlet.now ≡ c.outlet-1.given.0 = search rules in
    subst (λ outlet. (g.W.Outlet.state outlet).failed ≡ false) outlet_is led.working

pub returns-in-Err-Refused-clause-steps : goal.returns-in-Err-Refused-clause-steps
returns-in-Err-Refused-clause-steps g c =
    let sink = c.step.new.sink in
    let is = c.in-Err-Refused.is ∙ ap Err c.in-Err-Refused.field-0-is in
    let executed =
    subst
    (CarriesOn (TakesPart g.W.Outlet.state) (RefusesPart g.W.Outlet.state)
    (item_of c.args.machine.now (view c.args.item.now)) false _ c.step.new.sink c.args.machine.now c.step.new.self)
    is c.step.ensures in
    let refused = executed.2 in
    let led = led_all g.W.Outlet.state _ refused.mid refused.took.events c.requires.working refused.took.leads in
    let same_outlet = refused.refused.0.outlet ∙ led.same_outlet in
    let outlet_is : sink.outlet.now ≡ c.outlet-1.given.0 = search rules in
    subst
    (λ outlet. DrawsFront c.args.sheet.now ((item_of c.args.machine.now (view c.args.item.now)).run any_panel)
    (g.W.Outlet.state c.args.outlet.now) (g.W.Outlet.state outlet) c.args.kept.now.items c.args.document.now)
    outlet_is
    (draws_refused g.W.Outlet.state _ sink (item_of c.args.machine.now (view c.args.item.now)).run c.requires.working refused)

pub returns-in-Err-Refused-clause-status : goal.returns-in-Err-Refused-clause-status
returns-in-Err-Refused-clause-status g c = c.refusal.ensures.status

pub returns-in-Err-Memory-clause-steps : goal.returns-in-Err-Memory-clause-steps
returns-in-Err-Memory-clause-steps g c =
    let sink = c.step.new.sink in
    let is = c.in-Err-Memory.is ∙ ap Err c.in-Err-Memory.field-0-is in
    let executed =
    subst
    (CarriesOn (TakesPart g.W.Outlet.state) (RefusesPart g.W.Outlet.state)
    (item_of c.args.machine.now (view c.args.item.now)) false _ c.step.new.sink c.args.machine.now c.step.new.self)
    is c.step.ensures in
    let some = executed.3 in
    let took = some.1 in
    let led = led_all g.W.Outlet.state _ sink took.events c.requires.working took.leads in
    let same_outlet = led.same_outlet in
    let outlet_is : sink.outlet.now ≡ c.outlet-1.given.0 = search rules in
    subst
    (λ outlet. DrawsFront c.args.sheet.now ((item_of c.args.machine.now (view c.args.item.now)).run any_panel)
    (g.W.Outlet.state c.args.outlet.now) (g.W.Outlet.state outlet) c.args.kept.now.items c.args.document.now)
    outlet_is
    (draws_whole g.W.Outlet.state _ sink (item_of c.args.machine.now (view c.args.item.now)).run c.requires.working some)

pub returns-in-Err-Memory-clause-status : goal.returns-in-Err-Memory-clause-status
returns-in-Err-Memory-clause-status g c =
    let sink = c.step.new.sink in
    let is = c.in-Err-Memory.is ∙ ap Err c.in-Err-Memory.field-0-is in
    let executed =
    subst
    (CarriesOn (TakesPart g.W.Outlet.state) (RefusesPart g.W.Outlet.state)
    (item_of c.args.machine.now (view c.args.item.now)) false _ c.step.new.sink c.args.machine.now c.step.new.self)
    is c.step.ensures in
    let some = executed.3 in
    let took = some.1 in
    let led = led_all g.W.Outlet.state _ sink took.events c.requires.working took.leads in
    let same_outlet = led.same_outlet in
    let outlet_is : sink.outlet.now ≡ c.outlet-1.given.0 = search rules in
    subst (λ outlet. (g.W.Outlet.state outlet).failed ≡ false) outlet_is led.working
