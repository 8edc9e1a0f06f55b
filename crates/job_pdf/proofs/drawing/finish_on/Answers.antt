use Rattle.std.proofs.Common.{◌≡◌, ◌∙◌, ap, subst, false, true, Err, rules}
use Rattle.page_env.specs.Settings.{state_at}
use Rattle.page_machine.specs.Machine.{CarriesOn, end_of}
use Rattle.page_machine.specs.Run.{Done, Halts}
use Rattle.renderings.specs.Carriers.PageRendering.{any_panel}
use Rattle.job_pdf.specs.Carriers.Drawing.{Draws, DrawsFront, RefusesPart, TakesPart}
use Rattle.job_pdf.proofs.Led.{led_all, draws_all, draws_refused, same_three}
use Rattle.job_pdf.proofs.drawing.finish_on.Goals as goal

pub returns-in-Ok-clause-finishes : goal.returns-in-Ok-clause-finishes
returns-in-Ok-clause-finishes g c =
    let sink = c.finish.new.sink in
    let took = c.in-Ok.ensures.2 in
    let led = led_all g.W.Outlet.state _ sink took.events c.requires.working took.leads in
    let same_outlet = led.same_outlet in
    let same_kept = led.same_kept in
    let outlet_is : sink.outlet.now ≡ c.outlet-1.given.0 = search rules in
    let kept_is : sink.kept.now ≡ c.kept-1.given.0 = search rules in
    let same_document = led.same_document in
    let document_is : sink.document.now ≡ c.document-1.given.0 = search rules in (
      state_at any_panel c.finish.new.self.page,
      same_three
          (λ outlet kept document.
          Draws c.args.sheet.now ((end_of c.args.machine.now).run any_panel) (Done (state_at any_panel c.finish.new.self.page))
          (g.W.Outlet.state c.args.outlet.now) (g.W.Outlet.state outlet) c.args.kept.now.items kept.items c.args.document.now document)
          sink.outlet.now c.outlet-1.given.0 sink.kept.now c.kept-1.given.0 sink.document.now c.document-1.given.0
          outlet_is kept_is document_is
          (draws_all g.W.Outlet.state _ sink (end_of c.args.machine.now).run c.requires.working
          (λ panel. (Done (state_at panel c.finish.new.self.page))) took),
    )

pub returns-in-Ok-clause-status : goal.returns-in-Ok-clause-status
returns-in-Ok-clause-status g c =
    let sink = c.finish.new.sink in
    let took = c.in-Ok.ensures.2 in
    let led = led_all g.W.Outlet.state _ sink took.events c.requires.working took.leads in
    let same_outlet = led.same_outlet in
    let same_kept = led.same_kept in
    let outlet_is : sink.outlet.now ≡ c.outlet-1.given.0 = search rules in
    subst (λ outlet. (g.W.Outlet.state outlet).failed ≡ false) outlet_is led.working

pub returns-in-Err-Found-clause-finishes : goal.returns-in-Err-Found-clause-finishes
returns-in-Err-Found-clause-finishes g c =
    let sink = c.finish.new.sink in
    let is = c.in-Err-Found.is ∙ ap Err c.in-Err-Found.field-0-is in
    let executed =
    subst
    (CarriesOn (TakesPart g.W.Outlet.state) (RefusesPart g.W.Outlet.state)
    (end_of c.args.machine.now) true _ c.finish.new.sink c.args.machine.now c.finish.new.self)
    is c.finish.ensures in
    let took = executed.2 in
    let led = led_all g.W.Outlet.state _ sink took.events c.requires.working took.leads in
    let same_outlet = led.same_outlet in
    let same_kept = led.same_kept in
    let outlet_is : sink.outlet.now ≡ c.outlet-1.given.0 = search rules in
    let kept_is : sink.kept.now ≡ c.kept-1.given.0 = search rules in
    let same_document = led.same_document in
    let document_is : sink.document.now ≡ c.document-1.given.0 = search rules in
    same_three
    (λ outlet kept document. Draws c.args.sheet.now ((end_of c.args.machine.now).run any_panel) (Halts c.in-Err-Found.finding)
    (g.W.Outlet.state c.args.outlet.now) (g.W.Outlet.state outlet) c.args.kept.now.items kept.items c.args.document.now document)
    sink.outlet.now c.outlet-1.given.0 sink.kept.now c.kept-1.given.0 sink.document.now
    c.document-1.given.0
    outlet_is kept_is document_is
    (draws_all g.W.Outlet.state _ sink (end_of c.args.machine.now).run c.requires.working (λ panel. (Halts c.in-Err-Found.finding)) took)

pub returns-in-Err-Found-clause-status : goal.returns-in-Err-Found-clause-status
returns-in-Err-Found-clause-status g c =
    let sink = c.finish.new.sink in
    let is = c.in-Err-Found.is ∙ ap Err c.in-Err-Found.field-0-is in
    let executed =
    subst
    (CarriesOn (TakesPart g.W.Outlet.state) (RefusesPart g.W.Outlet.state)
    (end_of c.args.machine.now) true _ c.finish.new.sink c.args.machine.now c.finish.new.self)
    is c.finish.ensures in
    let took = executed.2 in
    let led = led_all g.W.Outlet.state _ sink took.events c.requires.working took.leads in
    let same_outlet = led.same_outlet in
    let same_kept = led.same_kept in
    let outlet_is : sink.outlet.now ≡ c.outlet-1.given.0 = search rules in
    subst (λ outlet. (g.W.Outlet.state outlet).failed ≡ false) outlet_is led.working

pub returns-in-Err-Refused-clause-finishes : goal.returns-in-Err-Refused-clause-finishes
returns-in-Err-Refused-clause-finishes g c =
    let sink = c.finish.new.sink in
    let is = c.in-Err-Refused.is ∙ ap Err c.in-Err-Refused.field-0-is in
    let executed =
    subst
    (CarriesOn (TakesPart g.W.Outlet.state) (RefusesPart g.W.Outlet.state)
    (end_of c.args.machine.now) true _ c.finish.new.sink c.args.machine.now c.finish.new.self)
    is c.finish.ensures in
    let refused = executed.2 in
    let led = led_all g.W.Outlet.state _ refused.mid refused.took.events c.requires.working refused.took.leads in
    let same_outlet = refused.refused.0.outlet ∙ led.same_outlet in
    let outlet_is : sink.outlet.now ≡ c.outlet-1.given.0 = search rules in
    subst
    (λ outlet. DrawsFront c.args.sheet.now ((end_of c.args.machine.now).run any_panel) (g.W.Outlet.state c.args.outlet.now)
    (g.W.Outlet.state outlet) c.args.kept.now.items c.args.document.now)
    outlet_is
    (draws_refused g.W.Outlet.state _ sink (end_of c.args.machine.now).run c.requires.working refused)

pub returns-in-Err-Refused-clause-status : goal.returns-in-Err-Refused-clause-status
returns-in-Err-Refused-clause-status g c = c.refusal.ensures.status
