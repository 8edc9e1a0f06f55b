use Rattle.std.proofs.Common.{◌≡◌, ◌∙◌, ap, refl, None, []}
use Rattle.pcl_lexer.specs.Reading.{Whole}
use Rattle.device_profile.specs.Printer.{Printer}
use Rattle.page_env.specs.declared.page.Page.{Page}
use Rattle.page_env.specs.Settings.{state_at}
use Rattle.renderings.specs.Carriers.PageRendering.{any_panel}
use Rattle.renderings.proofs.Renderings.{end_none}
use Rattle.job_picture.specs.Carriers.Rest.{drawn_from}
use Rattle.job_picture.specs.Failing.{spot_of}
use Rattle.job_picture.specs.Sheet.{sheet_of}
use Rattle.job_picture.proofs.Tellings.{end_stops, end_ends, end_goes_on, end_fails, end_cuts}
use Rattle.job_picture.proofs.job_picture.JobPictureRenderer.end.Goals as goal

pub returns-in_err-push_start_if_due-clause-rendered : goal.returns-in_err-push_start_if_due-clause-rendered
returns-in_err-push_start_if_due-clause-rendered g c =
    let own = c.args.self.now in
    end_none (drawn_from own.wanted.selection own.wanted.sentence.now own.machine own.progress own.is_started)
    (λ reading. reading ≡ Whole [] c.args.place) (g.W.Outlet.state c.args.outlet.now) c.args.kept.now.items
    c.push_start_if_due.new.text.items c.from_residual.result c.from_residual.ensures.0

pub returns-in_err-found-clause-rendered : goal.returns-in_err-found-clause-rendered
returns-in_err-found-clause-rendered g c =
    let own = c.args.self.now in
    let selection = own.wanted.selection in
    let sentence = own.wanted.sentence.now in
    let place = c.args.place in
    let sheet_is : c.sheet_of-sheet.result ≡ sheet_of place selection sentence own.machine.printer (state_at any_panel own.machine.page) =
    c.sheet_of-sheet.ensures
    ∙ (ap (λ (printer : Printer). sheet_of place selection sentence printer (state_at any_panel c.page.result.now)) c.profile.ensures
    ∙ ap (λ (page : Page). sheet_of place selection sentence own.machine.printer (state_at any_panel page)) c.page.ensures) in
    let spot_is : c.spot_of-spot.result ≡ spot_of c.sheet_of-sheet.result.paper (state_at any_panel own.machine.page) None =
    c.spot_of-spot.ensures ∙ ap (λ (page : Page). spot_of c.sheet_of-sheet.result.paper (state_at any_panel page) None) c.page-2.ensures in
    end_stops selection sentence own.machine own.progress own.is_started (g.W.Outlet.state c.args.outlet.now)
    (g.W.Outlet.state c.finish_on.new.outlet) c.args.kept.now.items c.push_start_if_due.new.text.items c.finish_on.new.kept.items
    c.in_ok-push_start_if_due.ensures place c.sheet_of-sheet.result sheet_is c.spot_of-spot.result spot_is c.finish_on.new.kept.items
    c.finish_on.new.progress
    c.in_err-found.field-0.0 c.in_err-found.ensures.finishes c.from_residual-in_err-found.result c.from_residual-in_err-found.ensures.0

pub returns-then-is_behind-clause-rendered : goal.returns-then-is_behind-clause-rendered
returns-then-is_behind-clause-rendered g c =
    let own = c.args.self.now in
    let selection = own.wanted.selection in
    let sentence = own.wanted.sentence.now in
    let place = c.args.place in
    let sheet_is : c.sheet_of-sheet.result ≡ sheet_of place selection sentence own.machine.printer (state_at any_panel own.machine.page) =
    c.sheet_of-sheet.ensures
    ∙ (ap (λ (printer : Printer). sheet_of place selection sentence printer (state_at any_panel c.page.result.now)) c.profile.ensures
    ∙ ap (λ (page : Page). sheet_of place selection sentence own.machine.printer (state_at any_panel page)) c.page.ensures) in
    let spot_is : c.spot_of-spot.result ≡ spot_of c.sheet_of-sheet.result.paper (state_at any_panel own.machine.page) None =
    c.spot_of-spot.ensures ∙ ap (λ (page : Page). spot_of c.sheet_of-sheet.result.paper (state_at any_panel page) None) c.page-2.ensures in
    end_ends selection sentence own.machine own.progress own.is_started (g.W.Outlet.state c.args.outlet.now)
    (g.W.Outlet.state c.finish_on.new.outlet) c.args.kept.now.items c.push_start_if_due.new.text.items c.finish_on.new.kept.items
    c.in_ok-push_start_if_due.ensures place c.sheet_of-sheet.result sheet_is c.spot_of-spot.result spot_is c.finish_on.new.kept.items
    c.finish_on.new.progress
    c.in_ok-found.found refl c.in_ok-found.ensures.finishes c.if-is_behind.ensures

pub returns-in_err-push_end_of_all-in-None-clause-rendered : goal.returns-in_err-push_end_of_all-in-None-clause-rendered
returns-in_err-push_end_of_all-in-None-clause-rendered g c =
    let own = c.args.self.now in
    let selection = own.wanted.selection in
    let sentence = own.wanted.sentence.now in
    let place = c.args.place in
    let sheet_is : c.sheet_of-sheet.result ≡ sheet_of place selection sentence own.machine.printer (state_at any_panel own.machine.page) =
    c.sheet_of-sheet.ensures
    ∙ (ap (λ (printer : Printer). sheet_of place selection sentence printer (state_at any_panel c.page.result.now)) c.profile.ensures
    ∙ ap (λ (page : Page). sheet_of place selection sentence own.machine.printer (state_at any_panel page)) c.page.ensures) in
    let spot_is : c.spot_of-spot.result ≡ spot_of c.sheet_of-sheet.result.paper (state_at any_panel own.machine.page) None =
    c.spot_of-spot.ensures ∙ ap (λ (page : Page). spot_of c.sheet_of-sheet.result.paper (state_at any_panel page) None) c.page-2.ensures in
    end_cuts selection sentence own.machine own.progress own.is_started (g.W.Outlet.state c.args.outlet.now)
    (g.W.Outlet.state c.finish_on.new.outlet) c.args.kept.now.items c.push_start_if_due.new.text.items c.push_end_of_all.new.text.items
    c.in_ok-push_start_if_due.ensures place c.sheet_of-sheet.result sheet_is c.spot_of-spot.result spot_is c.finish_on.new.kept.items
    c.finish_on.new.progress
    c.in_ok-found.found c.in_ok-found.ensures.finishes c.from_residual-in_err-push_end_of_all-in-None.result
    c.from_residual-in_err-push_end_of_all-in-None.ensures.0

pub returns-in_err-push_failed-in-Some-clause-rendered : goal.returns-in_err-push_failed-in-Some-clause-rendered
returns-in_err-push_failed-in-Some-clause-rendered g c =
    let own = c.args.self.now in
    let selection = own.wanted.selection in
    let sentence = own.wanted.sentence.now in
    let place = c.args.place in
    let sheet_is : c.sheet_of-sheet.result ≡ sheet_of place selection sentence own.machine.printer (state_at any_panel own.machine.page) =
    c.sheet_of-sheet.ensures
    ∙ (ap (λ (printer : Printer). sheet_of place selection sentence printer (state_at any_panel c.page.result.now)) c.profile.ensures
    ∙ ap (λ (page : Page). sheet_of place selection sentence own.machine.printer (state_at any_panel page)) c.page.ensures) in
    let spot_is : c.spot_of-spot.result ≡ spot_of c.sheet_of-sheet.result.paper (state_at any_panel own.machine.page) None =
    c.spot_of-spot.ensures ∙ ap (λ (page : Page). spot_of c.sheet_of-sheet.result.paper (state_at any_panel page) None) c.page-2.ensures in
    end_cuts selection sentence own.machine own.progress own.is_started (g.W.Outlet.state c.args.outlet.now)
    (g.W.Outlet.state c.finish_on.new.outlet) c.args.kept.now.items c.push_start_if_due.new.text.items c.push_failed.new.text.items
    c.in_ok-push_start_if_due.ensures place c.sheet_of-sheet.result sheet_is c.spot_of-spot.result spot_is c.finish_on.new.kept.items
    c.finish_on.new.progress
    c.in_ok-found.found c.in_ok-found.ensures.finishes c.from_residual-in_err-push_failed-in-Some.result
    c.from_residual-in_err-push_failed-in-Some.ensures.0

pub returns-in_ok-push_end_of_all-in-None-clause-rendered : goal.returns-in_ok-push_end_of_all-in-None-clause-rendered
returns-in_ok-push_end_of_all-in-None-clause-rendered g c =
    let own = c.args.self.now in
    let selection = own.wanted.selection in
    let sentence = own.wanted.sentence.now in
    let place = c.args.place in
    let sheet_is : c.sheet_of-sheet.result ≡ sheet_of place selection sentence own.machine.printer (state_at any_panel own.machine.page) =
    c.sheet_of-sheet.ensures
    ∙ (ap (λ (printer : Printer). sheet_of place selection sentence printer (state_at any_panel c.page.result.now)) c.profile.ensures
    ∙ ap (λ (page : Page). sheet_of place selection sentence own.machine.printer (state_at any_panel page)) c.page.ensures) in
    let spot_is : c.spot_of-spot.result ≡ spot_of c.sheet_of-sheet.result.paper (state_at any_panel own.machine.page) None =
    c.spot_of-spot.ensures ∙ ap (λ (page : Page). spot_of c.sheet_of-sheet.result.paper (state_at any_panel page) None) c.page-2.ensures in
    end_goes_on selection sentence own.machine own.progress own.is_started (g.W.Outlet.state c.args.outlet.now)
    (g.W.Outlet.state c.finish_on.new.outlet) c.args.kept.now.items c.push_start_if_due.new.text.items c.push_end_of_all.new.text.items
    c.in_ok-push_start_if_due.ensures place c.sheet_of-sheet.result sheet_is c.spot_of-spot.result spot_is c.finish_on.new.kept.items
    c.finish_on.new.progress
    c.in_ok-found.found c.in-None.is c.in_ok-push_end_of_all-in-None.ensures c.in_ok-found.ensures.finishes c.if-is_behind.ensures
    c.late_end.result c.late_end.ensures

pub returns-in_ok-push_failed-in-Some-clause-rendered : goal.returns-in_ok-push_failed-in-Some-clause-rendered
returns-in_ok-push_failed-in-Some-clause-rendered g c =
    let own = c.args.self.now in
    let selection = own.wanted.selection in
    let sentence = own.wanted.sentence.now in
    let place = c.args.place in
    let sheet_is : c.sheet_of-sheet.result ≡ sheet_of place selection sentence own.machine.printer (state_at any_panel own.machine.page) =
    c.sheet_of-sheet.ensures
    ∙ (ap (λ (printer : Printer). sheet_of place selection sentence printer (state_at any_panel c.page.result.now)) c.profile.ensures
    ∙ ap (λ (page : Page). sheet_of place selection sentence own.machine.printer (state_at any_panel page)) c.page.ensures) in
    let spot_is : c.spot_of-spot.result ≡ spot_of c.sheet_of-sheet.result.paper (state_at any_panel own.machine.page) None =
    c.spot_of-spot.ensures ∙ ap (λ (page : Page). spot_of c.sheet_of-sheet.result.paper (state_at any_panel page) None) c.page-2.ensures in
    end_fails selection sentence own.machine own.progress own.is_started (g.W.Outlet.state c.args.outlet.now)
    (g.W.Outlet.state c.finish_on.new.outlet) c.args.kept.now.items c.push_start_if_due.new.text.items c.push_failed.new.text.items
    c.in_ok-push_start_if_due.ensures place c.sheet_of-sheet.result sheet_is c.spot_of-spot.result spot_is c.finish_on.new.kept.items
    c.finish_on.new.progress
    c.in_ok-found.found c.in-Some.finding c.in-Some.is c.in_ok-push_failed-in-Some.ensures c.in_ok-found.ensures.finishes
    c.if-is_behind.ensures c.of_finding.result c.of_finding.ensures
