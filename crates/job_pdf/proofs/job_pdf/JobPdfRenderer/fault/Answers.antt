use Rattle.std.proofs.Common.{◌≡◌, ◌∙◌, ap, refl, []}
use Rattle.pcl_lexer.specs.Reading.{Stopped}
use Rattle.device_profile.specs.Printer.{Printer}
use Rattle.page_env.specs.declared.page.Page.{Page}
use Rattle.page_env.specs.Settings.{state_at}
use Rattle.renderings.specs.Carriers.PageRendering.{any_panel}
use Rattle.renderings.proofs.Renderings.{end_none}
use Rattle.job_pdf.specs.Carriers.Rest.{drawn_from}
use Rattle.job_pdf.specs.Plan.{plan_of}
use Rattle.job_pdf.specs.Sheet.{Spot, sheet_of, spot_of}
use Rattle.job_pdf.proofs.Tellings.{fault_fails}
use Rattle.job_pdf.proofs.job_pdf.JobPdfRenderer.fault.Goals as goal

pub returns-in_err-push_start_if_due-clause-rendered : goal.returns-in_err-push_start_if_due-clause-rendered
returns-in_err-push_start_if_due-clause-rendered g c =
    let own = c.args.self.now in
    end_none (drawn_from (plan_of own.wanted.now) own.machine own.document own.is_started)
    (λ reading. reading ≡ Stopped [] c.args.fault.place c.args.fault.cause) (g.W.Outlet.state c.args._outlet.now) c.args.kept.now.items
    c.push_start_if_due.new.text.items c.from_residual.result c.from_residual.ensures.0

pub returns-in_err-push_failure_end-clause-rendered : goal.returns-in_err-push_failure_end-clause-rendered
returns-in_err-push_failure_end-clause-rendered g c =
    let own = c.args.self.now in
    end_none (drawn_from (plan_of own.wanted.now) own.machine own.document own.is_started)
    (λ reading. reading ≡ Stopped [] c.args.fault.place c.args.fault.cause) (g.W.Outlet.state c.args._outlet.now) c.args.kept.now.items
    c.push_failure_end.new.text.items c.from_residual-in_err-push_failure_end.result c.from_residual-in_err-push_failure_end.ensures.0

pub returns-clause-rendered : goal.returns-clause-rendered
returns-clause-rendered g c =
    let own = c.args.self.now in
    let plan = plan_of own.wanted.now in
    let here = state_at any_panel own.machine.page in
    let sheet_is : c.sheet_of-sheet.result ≡ sheet_of plan own.machine.printer here =
    c.sheet_of-sheet.ensures
    ∙ (ap (λ (printer : Printer). sheet_of plan printer (state_at any_panel c.page.result.now)) c.profile.ensures
    ∙ ap (λ (page : Page). sheet_of plan own.machine.printer (state_at any_panel page)) c.page.ensures) in
    let spot : Spot = record { x = c.place_on-spot.result.x; y = c.place_on-spot.result.y } in
    let paper = c.sheet_of-sheet.result.page.paper in
    let spot_is : spot ≡ spot_of paper here =
    (λ i. record { x = c.place_on-spot.ensures.x i; y = c.place_on-spot.ensures.y i })
    ∙ ap (λ (page : Page). spot_of paper (state_at any_panel page)) c.page-2.ensures in
    fault_fails plan own.machine own.document own.is_started (g.W.Outlet.state c.args._outlet.now)
    (g.W.Outlet.state c.args._outlet.now) c.args.kept.now.items c.push_start_if_due.new.text.items c.push_failure_end.new.text.items
    c.in_ok-push_start_if_due.ensures.text c.sheet_of-sheet.result sheet_is spot spot_is c.push_start_if_due.new.document
    c.in_ok-push_start_if_due.ensures.document
    c.args.fault.place c.args.fault.cause c.of_fault-failure.result c.of_fault-failure.ensures refl
    c.in_ok-push_failure_end.ensures c.of_fault.result c.of_fault.ensures
