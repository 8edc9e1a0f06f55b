use Rattle.std.proofs.Common.{◌≡◌, ◌∙◌, ap, []}
use Rattle.pcl_lexer.specs.Reading.{Whole}
use Rattle.device_profile.specs.Printer.{Printer}
use Rattle.page_env.specs.declared.page.Page.{Page}
use Rattle.page_env.specs.Settings.{state_at}
use Rattle.renderings.specs.Carriers.PageRendering.{any_panel}
use Rattle.renderings.proofs.Renderings.{end_none}
use Rattle.requests.specs.Selection.{is_behind}
use Rattle.job_pdf.specs.Carriers.Rest.{drawn_from}
use Rattle.job_pdf.specs.Plan.{plan_of}
use Rattle.job_pdf.specs.Sheet.{Spot, sheet_of, spot_of}
use Rattle.job_pdf.proofs.Tellings.{end_stops, end_ends, end_goes_on, end_fails, end_cuts}
use Rattle.job_pdf.proofs.job_pdf.JobPdfRenderer.end.Goals as goal

pub returns-in_err-push_start_if_due-clause-rendered : goal.returns-in_err-push_start_if_due-clause-rendered
returns-in_err-push_start_if_due-clause-rendered g c =
    let own = c.args.self.now in
    end_none (drawn_from (plan_of own.wanted.now) own.machine own.document own.is_started)
    (λ reading. reading ≡ Whole [] c.args.place) (g.W.Outlet.state c.args.outlet.now) c.args.kept.now.items
    c.push_start_if_due.new.text.items c.from_residual.result c.from_residual.ensures.0

pub returns-in_err-found-clause-rendered : goal.returns-in_err-found-clause-rendered
returns-in_err-found-clause-rendered g c =
    let own = c.args.self.now in
    let plan = plan_of own.wanted.now in
    let here = state_at any_panel own.machine.page in
    let sheet_is : c.sheet_of-sheet.result ≡ sheet_of plan own.machine.printer here =
    c.sheet_of-sheet.ensures
    ∙ (ap (λ (printer : Printer). sheet_of plan printer (state_at any_panel c.page.result.now)) c.profile.ensures
    ∙ ap (λ (page : Page). sheet_of plan own.machine.printer (state_at any_panel page)) c.page.ensures) in
    let spot : Spot = record { x = c.place_on-spot.result.x; y = c.place_on-spot.result.y } in
    let paper = c.sheet_of-sheet.result.page.paper in
    let spot_is : spot ≡ spot_of paper here =
    (λ i. record { x = c.place_on-spot.ensures.x i; y = c.place_on-spot.ensures.y i })
    ∙ ap (λ (page : Page). spot_of paper (state_at any_panel page)) c.page-2.ensures in
    end_stops plan own.machine own.document own.is_started (g.W.Outlet.state c.args.outlet.now)
    (g.W.Outlet.state c.finish_on.new.outlet) c.args.kept.now.items c.push_start_if_due.new.text.items c.finish_on.new.kept.items
    c.in_ok-push_start_if_due.ensures.text c.sheet_of-sheet.result sheet_is spot spot_is c.push_start_if_due.new.document
    c.in_ok-push_start_if_due.ensures.document
    c.args.place c.finish_on.new.kept.items c.finish_on.new.document
    c.in_err-found.field-0.0 c.in_err-found.ensures.finishes
    c.from_residual-in_err-found.result c.from_residual-in_err-found.ensures.0

pub returns-in_err-push_whole_end-clause-rendered : goal.returns-in_err-push_whole_end-clause-rendered
returns-in_err-push_whole_end-clause-rendered g c =
    let own = c.args.self.now in
    let plan = plan_of own.wanted.now in
    let here = state_at any_panel own.machine.page in
    let sheet_is : c.sheet_of-sheet.result ≡ sheet_of plan own.machine.printer here =
    c.sheet_of-sheet.ensures
    ∙ (ap (λ (printer : Printer). sheet_of plan printer (state_at any_panel c.page.result.now)) c.profile.ensures
    ∙ ap (λ (page : Page). sheet_of plan own.machine.printer (state_at any_panel page)) c.page.ensures) in
    let spot : Spot = record { x = c.place_on-spot.result.x; y = c.place_on-spot.result.y } in
    let paper = c.sheet_of-sheet.result.page.paper in
    let spot_is : spot ≡ spot_of paper here =
    (λ i. record { x = c.place_on-spot.ensures.x i; y = c.place_on-spot.ensures.y i })
    ∙ ap (λ (page : Page). spot_of paper (state_at any_panel page)) c.page-2.ensures in
    end_cuts plan own.machine own.document own.is_started (g.W.Outlet.state c.args.outlet.now)
    (g.W.Outlet.state c.finish_on.new.outlet) c.args.kept.now.items c.push_start_if_due.new.text.items c.push_whole_end.new.text.items
    c.in_ok-push_start_if_due.ensures.text c.sheet_of-sheet.result sheet_is spot spot_is c.push_start_if_due.new.document
    c.in_ok-push_start_if_due.ensures.document
    c.args.place c.finish_on.new.kept.items c.finish_on.new.document
    c.in_ok-found.found c.in_ok-found.ensures.finishes
    c.from_residual-in_err-push_whole_end.result c.from_residual-in_err-push_whole_end.ensures.0

pub returns-in_err-push_whole_end-in-None-clause-rendered : goal.returns-in_err-push_whole_end-in-None-clause-rendered
returns-in_err-push_whole_end-in-None-clause-rendered g c =
    let own = c.args.self.now in
    let plan = plan_of own.wanted.now in
    let here = state_at any_panel own.machine.page in
    let sheet_is : c.sheet_of-sheet.result ≡ sheet_of plan own.machine.printer here =
    c.sheet_of-sheet.ensures
    ∙ (ap (λ (printer : Printer). sheet_of plan printer (state_at any_panel c.page.result.now)) c.profile.ensures
    ∙ ap (λ (page : Page). sheet_of plan own.machine.printer (state_at any_panel page)) c.page.ensures) in
    let spot : Spot = record { x = c.place_on-spot.result.x; y = c.place_on-spot.result.y } in
    let paper = c.sheet_of-sheet.result.page.paper in
    let spot_is : spot ≡ spot_of paper here =
    (λ i. record { x = c.place_on-spot.ensures.x i; y = c.place_on-spot.ensures.y i })
    ∙ ap (λ (page : Page). spot_of paper (state_at any_panel page)) c.page-2.ensures in
    end_cuts plan own.machine own.document own.is_started (g.W.Outlet.state c.args.outlet.now)
    (g.W.Outlet.state c.finish_on.new.outlet) c.args.kept.now.items c.push_start_if_due.new.text.items
    c.push_whole_end-in-None.new.text.items
    c.in_ok-push_start_if_due.ensures.text c.sheet_of-sheet.result sheet_is spot spot_is c.push_start_if_due.new.document
    c.in_ok-push_start_if_due.ensures.document
    c.args.place c.finish_on.new.kept.items c.finish_on.new.document
    c.in_ok-found.found c.in_ok-found.ensures.finishes
    c.from_residual-in_err-push_whole_end-in-None.result c.from_residual-in_err-push_whole_end-in-None.ensures.0

pub returns-in_err-push_failure_end-in-Some-clause-rendered : goal.returns-in_err-push_failure_end-in-Some-clause-rendered
returns-in_err-push_failure_end-in-Some-clause-rendered g c =
    let own = c.args.self.now in
    let plan = plan_of own.wanted.now in
    let here = state_at any_panel own.machine.page in
    let sheet_is : c.sheet_of-sheet.result ≡ sheet_of plan own.machine.printer here =
    c.sheet_of-sheet.ensures
    ∙ (ap (λ (printer : Printer). sheet_of plan printer (state_at any_panel c.page.result.now)) c.profile.ensures
    ∙ ap (λ (page : Page). sheet_of plan own.machine.printer (state_at any_panel page)) c.page.ensures) in
    let spot : Spot = record { x = c.place_on-spot.result.x; y = c.place_on-spot.result.y } in
    let paper = c.sheet_of-sheet.result.page.paper in
    let spot_is : spot ≡ spot_of paper here =
    (λ i. record { x = c.place_on-spot.ensures.x i; y = c.place_on-spot.ensures.y i })
    ∙ ap (λ (page : Page). spot_of paper (state_at any_panel page)) c.page-2.ensures in
    end_cuts plan own.machine own.document own.is_started (g.W.Outlet.state c.args.outlet.now)
    (g.W.Outlet.state c.finish_on.new.outlet) c.args.kept.now.items c.push_start_if_due.new.text.items c.push_failure_end.new.text.items
    c.in_ok-push_start_if_due.ensures.text c.sheet_of-sheet.result sheet_is spot spot_is c.push_start_if_due.new.document
    c.in_ok-push_start_if_due.ensures.document
    c.args.place c.finish_on.new.kept.items c.finish_on.new.document
    c.in_ok-found.found c.in_ok-found.ensures.finishes
    c.from_residual-in_err-push_failure_end-in-Some.result c.from_residual-in_err-push_failure_end-in-Some.ensures.0

pub returns-then-is_behind-clause-rendered : goal.returns-then-is_behind-clause-rendered
returns-then-is_behind-clause-rendered g c =
    let own = c.args.self.now in
    let plan = plan_of own.wanted.now in
    let here = state_at any_panel own.machine.page in
    let sheet_is : c.sheet_of-sheet.result ≡ sheet_of plan own.machine.printer here =
    c.sheet_of-sheet.ensures
    ∙ (ap (λ (printer : Printer). sheet_of plan printer (state_at any_panel c.page.result.now)) c.profile.ensures
    ∙ ap (λ (page : Page). sheet_of plan own.machine.printer (state_at any_panel page)) c.page.ensures) in
    let spot : Spot = record { x = c.place_on-spot.result.x; y = c.place_on-spot.result.y } in
    let paper = c.sheet_of-sheet.result.page.paper in
    let spot_is : spot ≡ spot_of paper here =
    (λ i. record { x = c.place_on-spot.ensures.x i; y = c.place_on-spot.ensures.y i })
    ∙ ap (λ (page : Page). spot_of paper (state_at any_panel page)) c.page-2.ensures in
    end_ends plan own.machine own.document own.is_started (g.W.Outlet.state c.args.outlet.now)
    (g.W.Outlet.state c.finish_on.new.outlet) c.args.kept.now.items c.push_start_if_due.new.text.items c.push_whole_end.new.text.items
    c.in_ok-push_start_if_due.ensures.text c.sheet_of-sheet.result sheet_is spot spot_is c.push_start_if_due.new.document
    c.in_ok-push_start_if_due.ensures.document
    c.args.place c.finish_on.new.kept.items c.finish_on.new.document
    c.in_ok-found.found c.in_ok-push_whole_end.ensures c.in_ok-found.ensures.finishes
    (c.if-is_behind.ensures ∙ ap (is_behind plan.selection) c.page-3.ensures)

pub returns-in_ok-push_whole_end-in-None-clause-rendered : goal.returns-in_ok-push_whole_end-in-None-clause-rendered
returns-in_ok-push_whole_end-in-None-clause-rendered g c =
    let own = c.args.self.now in
    let plan = plan_of own.wanted.now in
    let here = state_at any_panel own.machine.page in
    let sheet_is : c.sheet_of-sheet.result ≡ sheet_of plan own.machine.printer here =
    c.sheet_of-sheet.ensures
    ∙ (ap (λ (printer : Printer). sheet_of plan printer (state_at any_panel c.page.result.now)) c.profile.ensures
    ∙ ap (λ (page : Page). sheet_of plan own.machine.printer (state_at any_panel page)) c.page.ensures) in
    let spot : Spot = record { x = c.place_on-spot.result.x; y = c.place_on-spot.result.y } in
    let paper = c.sheet_of-sheet.result.page.paper in
    let spot_is : spot ≡ spot_of paper here =
    (λ i. record { x = c.place_on-spot.ensures.x i; y = c.place_on-spot.ensures.y i })
    ∙ ap (λ (page : Page). spot_of paper (state_at any_panel page)) c.page-2.ensures in
    end_goes_on plan own.machine own.document own.is_started (g.W.Outlet.state c.args.outlet.now)
    (g.W.Outlet.state c.finish_on.new.outlet) c.args.kept.now.items c.push_start_if_due.new.text.items
    c.push_whole_end-in-None.new.text.items
    c.in_ok-push_start_if_due.ensures.text c.sheet_of-sheet.result sheet_is spot spot_is c.push_start_if_due.new.document
    c.in_ok-push_start_if_due.ensures.document
    c.args.place c.finish_on.new.kept.items c.finish_on.new.document
    c.in_ok-found.found c.in-None.is c.in_ok-push_whole_end-in-None.ensures c.in_ok-found.ensures.finishes
    (c.if-is_behind.ensures ∙ ap (is_behind plan.selection) c.page-3.ensures)

pub returns-in_ok-push_failure_end-in-Some-clause-rendered : goal.returns-in_ok-push_failure_end-in-Some-clause-rendered
returns-in_ok-push_failure_end-in-Some-clause-rendered g c =
    let own = c.args.self.now in
    let plan = plan_of own.wanted.now in
    let here = state_at any_panel own.machine.page in
    let sheet_is : c.sheet_of-sheet.result ≡ sheet_of plan own.machine.printer here =
    c.sheet_of-sheet.ensures
    ∙ (ap (λ (printer : Printer). sheet_of plan printer (state_at any_panel c.page.result.now)) c.profile.ensures
    ∙ ap (λ (page : Page). sheet_of plan own.machine.printer (state_at any_panel page)) c.page.ensures) in
    let spot : Spot = record { x = c.place_on-spot.result.x; y = c.place_on-spot.result.y } in
    let paper = c.sheet_of-sheet.result.page.paper in
    let spot_is : spot ≡ spot_of paper here =
    (λ i. record { x = c.place_on-spot.ensures.x i; y = c.place_on-spot.ensures.y i })
    ∙ ap (λ (page : Page). spot_of paper (state_at any_panel page)) c.page-2.ensures in
    end_fails plan own.machine own.document own.is_started (g.W.Outlet.state c.args.outlet.now)
    (g.W.Outlet.state c.finish_on.new.outlet) c.args.kept.now.items c.push_start_if_due.new.text.items c.push_failure_end.new.text.items
    c.in_ok-push_start_if_due.ensures.text c.sheet_of-sheet.result sheet_is spot spot_is c.push_start_if_due.new.document
    c.in_ok-push_start_if_due.ensures.document
    c.args.place c.finish_on.new.kept.items c.finish_on.new.document
    c.in_ok-found.found c.in-Some.finding c.in-Some.is c.of_finding-failure.result c.of_finding-failure.ensures
    c.in_ok-push_failure_end-in-Some.ensures c.in_ok-found.ensures.finishes
    (c.if-is_behind.ensures ∙ ap (is_behind plan.selection) c.page-3.ensures) c.of_finding.result c.of_finding.ensures
