use Rattle.std.proofs.Common.{◌≡◌, ◌∙◌, ap, refl, true, Option}
use Rattle.pcl_items.specs.Items.{at, view}
use Rattle.device_profile.specs.Printer.{Printer}
use Rattle.page_env.specs.declared.page.Page.{Page}
use Rattle.page_env.specs.Settings.{state_at}
use Rattle.renderings.specs.Carriers.PageRendering.{any_panel}
use Rattle.renderings.proofs.Renderings.{item_none}
use Rattle.job_picture.specs.Carriers.Rest.{drawn_from}
use Rattle.page_picture.specs.declared.failure.Outline.{Outline}
use Rattle.job_picture.specs.Failing.{mark_of, spot_of}
use Rattle.job_picture.specs.Sheet.{sheet_of}
use Rattle.job_picture.proofs.Tellings.{item_stops, item_ends, item_goes_on, item_fails, item_cuts}
use Rattle.job_picture.proofs.job_picture.JobPictureRenderer.item.Goals as goal

pub returns-in_err-push_start_if_due-clause-rendered : goal.returns-in_err-push_start_if_due-clause-rendered
returns-in_err-push_start_if_due-clause-rendered g c =
    let own = c.args.self.now in
    let rendering = drawn_from own.wanted.selection own.wanted.sentence.now own.machine own.progress own.is_started in
    item_none rendering rendering (at c.args.place (view c.args.item.now)) (g.W.Outlet.state c.args.outlet.now) c.args.kept.now.items
    c.push_start_if_due.new.text.items c.from_residual.result c.from_residual.ensures.0

pub returns-in_err-found-clause-rendered : goal.returns-in_err-found-clause-rendered
returns-in_err-found-clause-rendered g c =
    let own = c.args.self.now in
    let selection = own.wanted.selection in
    let sentence = own.wanted.sentence.now in
    let place = c.args.place in
    let sheet_is : c.sheet_of-sheet.result ≡ sheet_of place selection sentence own.machine.printer (state_at any_panel own.machine.page) =
    c.sheet_of-sheet.ensures
    ∙ (ap (λ (printer : Printer). sheet_of place selection sentence printer (state_at any_panel c.page.result.now)) c.profile.ensures
    ∙ ap (λ (page : Page). sheet_of place selection sentence own.machine.printer (state_at any_panel page)) c.page.ensures) in
    let item = view c.args.item.now in
    let paper = c.sheet_of-sheet.result.paper in
    let mark_is : c.mark_of-mark.result ≡ mark_of own.machine.printer paper (state_at any_panel own.machine.page) item =
    c.mark_of-mark.ensures
    ∙ (ap (λ (printer : Printer). mark_of printer paper (state_at any_panel c.page-2.result.now) item) c.profile-2.ensures
    ∙ ap (λ (page : Page). mark_of own.machine.printer paper (state_at any_panel page) item) c.page-2.ensures) in
    let spot_is : c.spot_of-spot.result
    ≡ spot_of paper (state_at any_panel own.machine.page) (mark_of own.machine.printer paper (state_at any_panel own.machine.page) item) =
    c.spot_of-spot.ensures
    ∙ (ap (λ (page : Page). spot_of paper (state_at any_panel page) c.mark_of-mark.result) c.page-3.ensures
    ∙ ap (λ (mark : Option Outline). spot_of paper (state_at any_panel own.machine.page) mark) mark_is) in
    item_stops selection sentence own.machine own.progress own.is_started (g.W.Outlet.state c.args.outlet.now)
    (g.W.Outlet.state c.step_on.new.outlet) c.args.kept.now.items c.push_start_if_due.new.text.items c.step_on.new.kept.items
    c.in_ok-push_start_if_due.ensures place c.sheet_of-sheet.result sheet_is c.spot_of-spot.result
    item spot_is c.step_on.new.machine c.step_on.new.kept.items c.step_on.new.progress
    (drawn_from selection sentence c.step_on.new.machine c.step_on.new.progress true) c.in_err-found.field-0.0 c.in_err-found.ensures.steps
    c.from_residual-in_err-found.result c.from_residual-in_err-found.ensures.0

pub returns-then-is_behind-clause-rendered : goal.returns-then-is_behind-clause-rendered
returns-then-is_behind-clause-rendered g c =
    let own = c.args.self.now in
    let selection = own.wanted.selection in
    let sentence = own.wanted.sentence.now in
    let place = c.args.place in
    let sheet_is : c.sheet_of-sheet.result ≡ sheet_of place selection sentence own.machine.printer (state_at any_panel own.machine.page) =
    c.sheet_of-sheet.ensures
    ∙ (ap (λ (printer : Printer). sheet_of place selection sentence printer (state_at any_panel c.page.result.now)) c.profile.ensures
    ∙ ap (λ (page : Page). sheet_of place selection sentence own.machine.printer (state_at any_panel page)) c.page.ensures) in
    let item = view c.args.item.now in
    let paper = c.sheet_of-sheet.result.paper in
    let mark_is : c.mark_of-mark.result ≡ mark_of own.machine.printer paper (state_at any_panel own.machine.page) item =
    c.mark_of-mark.ensures
    ∙ (ap (λ (printer : Printer). mark_of printer paper (state_at any_panel c.page-2.result.now) item) c.profile-2.ensures
    ∙ ap (λ (page : Page). mark_of own.machine.printer paper (state_at any_panel page) item) c.page-2.ensures) in
    let spot_is : c.spot_of-spot.result
    ≡ spot_of paper (state_at any_panel own.machine.page) (mark_of own.machine.printer paper (state_at any_panel own.machine.page) item) =
    c.spot_of-spot.ensures
    ∙ (ap (λ (page : Page). spot_of paper (state_at any_panel page) c.mark_of-mark.result) c.page-3.ensures
    ∙ ap (λ (mark : Option Outline). spot_of paper (state_at any_panel own.machine.page) mark) mark_is) in
    item_ends selection sentence own.machine own.progress own.is_started (g.W.Outlet.state c.args.outlet.now)
    (g.W.Outlet.state c.step_on.new.outlet) c.args.kept.now.items c.push_start_if_due.new.text.items c.step_on.new.kept.items
    c.in_ok-push_start_if_due.ensures place c.sheet_of-sheet.result sheet_is c.spot_of-spot.result
    item spot_is c.step_on.new.machine c.step_on.new.kept.items c.step_on.new.progress
    c.in_ok-found.found refl c.in_ok-found.ensures.steps c.if-is_behind.ensures

pub returns-in_err-push_failed-in-Some-clause-rendered : goal.returns-in_err-push_failed-in-Some-clause-rendered
returns-in_err-push_failed-in-Some-clause-rendered g c =
    let own = c.args.self.now in
    let selection = own.wanted.selection in
    let sentence = own.wanted.sentence.now in
    let place = c.args.place in
    let sheet_is : c.sheet_of-sheet.result ≡ sheet_of place selection sentence own.machine.printer (state_at any_panel own.machine.page) =
    c.sheet_of-sheet.ensures
    ∙ (ap (λ (printer : Printer). sheet_of place selection sentence printer (state_at any_panel c.page.result.now)) c.profile.ensures
    ∙ ap (λ (page : Page). sheet_of place selection sentence own.machine.printer (state_at any_panel page)) c.page.ensures) in
    let item = view c.args.item.now in
    let paper = c.sheet_of-sheet.result.paper in
    let mark_is : c.mark_of-mark.result ≡ mark_of own.machine.printer paper (state_at any_panel own.machine.page) item =
    c.mark_of-mark.ensures
    ∙ (ap (λ (printer : Printer). mark_of printer paper (state_at any_panel c.page-2.result.now) item) c.profile-2.ensures
    ∙ ap (λ (page : Page). mark_of own.machine.printer paper (state_at any_panel page) item) c.page-2.ensures) in
    let spot_is : c.spot_of-spot.result
    ≡ spot_of paper (state_at any_panel own.machine.page) (mark_of own.machine.printer paper (state_at any_panel own.machine.page) item) =
    c.spot_of-spot.ensures
    ∙ (ap (λ (page : Page). spot_of paper (state_at any_panel page) c.mark_of-mark.result) c.page-3.ensures
    ∙ ap (λ (mark : Option Outline). spot_of paper (state_at any_panel own.machine.page) mark) mark_is) in
    item_cuts selection sentence own.machine own.progress own.is_started (g.W.Outlet.state c.args.outlet.now)
    (g.W.Outlet.state c.step_on.new.outlet) c.args.kept.now.items c.push_start_if_due.new.text.items c.push_failed.new.text.items
    c.in_ok-push_start_if_due.ensures place c.sheet_of-sheet.result sheet_is c.spot_of-spot.result
    item spot_is c.step_on.new.machine c.step_on.new.kept.items c.step_on.new.progress
    c.in_ok-found.found c.in-Some.finding c.in-Some.is (drawn_from selection sentence c.step_on.new.machine c.step_on.new.progress true)
    c.in_ok-found.ensures.steps c.from_residual-in_err-push_failed-in-Some.result c.from_residual-in_err-push_failed-in-Some.ensures.0

pub returns-in-None-clause-rendered : goal.returns-in-None-clause-rendered
returns-in-None-clause-rendered g c =
    let own = c.args.self.now in
    let selection = own.wanted.selection in
    let sentence = own.wanted.sentence.now in
    let place = c.args.place in
    let sheet_is : c.sheet_of-sheet.result ≡ sheet_of place selection sentence own.machine.printer (state_at any_panel own.machine.page) =
    c.sheet_of-sheet.ensures
    ∙ (ap (λ (printer : Printer). sheet_of place selection sentence printer (state_at any_panel c.page.result.now)) c.profile.ensures
    ∙ ap (λ (page : Page). sheet_of place selection sentence own.machine.printer (state_at any_panel page)) c.page.ensures) in
    let item = view c.args.item.now in
    let paper = c.sheet_of-sheet.result.paper in
    let mark_is : c.mark_of-mark.result ≡ mark_of own.machine.printer paper (state_at any_panel own.machine.page) item =
    c.mark_of-mark.ensures
    ∙ (ap (λ (printer : Printer). mark_of printer paper (state_at any_panel c.page-2.result.now) item) c.profile-2.ensures
    ∙ ap (λ (page : Page). mark_of own.machine.printer paper (state_at any_panel page) item) c.page-2.ensures) in
    let spot_is : c.spot_of-spot.result
    ≡ spot_of paper (state_at any_panel own.machine.page) (mark_of own.machine.printer paper (state_at any_panel own.machine.page) item) =
    c.spot_of-spot.ensures
    ∙ (ap (λ (page : Page). spot_of paper (state_at any_panel page) c.mark_of-mark.result) c.page-3.ensures
    ∙ ap (λ (mark : Option Outline). spot_of paper (state_at any_panel own.machine.page) mark) mark_is) in
    item_goes_on selection sentence own.machine own.progress own.is_started (g.W.Outlet.state c.args.outlet.now)
    (g.W.Outlet.state c.step_on.new.outlet) c.args.kept.now.items c.push_start_if_due.new.text.items c.step_on.new.kept.items
    c.in_ok-push_start_if_due.ensures place c.sheet_of-sheet.result sheet_is c.spot_of-spot.result
    item spot_is c.step_on.new.machine c.step_on.new.kept.items c.step_on.new.progress
    c.in_ok-found.found c.in-None.is refl c.in_ok-found.ensures.steps c.if-is_behind.ensures

pub returns-in_ok-push_failed-in-Some-clause-rendered : goal.returns-in_ok-push_failed-in-Some-clause-rendered
returns-in_ok-push_failed-in-Some-clause-rendered g c =
    let own = c.args.self.now in
    let selection = own.wanted.selection in
    let sentence = own.wanted.sentence.now in
    let place = c.args.place in
    let sheet_is : c.sheet_of-sheet.result ≡ sheet_of place selection sentence own.machine.printer (state_at any_panel own.machine.page) =
    c.sheet_of-sheet.ensures
    ∙ (ap (λ (printer : Printer). sheet_of place selection sentence printer (state_at any_panel c.page.result.now)) c.profile.ensures
    ∙ ap (λ (page : Page). sheet_of place selection sentence own.machine.printer (state_at any_panel page)) c.page.ensures) in
    let item = view c.args.item.now in
    let paper = c.sheet_of-sheet.result.paper in
    let mark_is : c.mark_of-mark.result ≡ mark_of own.machine.printer paper (state_at any_panel own.machine.page) item =
    c.mark_of-mark.ensures
    ∙ (ap (λ (printer : Printer). mark_of printer paper (state_at any_panel c.page-2.result.now) item) c.profile-2.ensures
    ∙ ap (λ (page : Page). mark_of own.machine.printer paper (state_at any_panel page) item) c.page-2.ensures) in
    let spot_is : c.spot_of-spot.result
    ≡ spot_of paper (state_at any_panel own.machine.page) (mark_of own.machine.printer paper (state_at any_panel own.machine.page) item) =
    c.spot_of-spot.ensures
    ∙ (ap (λ (page : Page). spot_of paper (state_at any_panel page) c.mark_of-mark.result) c.page-3.ensures
    ∙ ap (λ (mark : Option Outline). spot_of paper (state_at any_panel own.machine.page) mark) mark_is) in
    item_fails selection sentence own.machine own.progress own.is_started (g.W.Outlet.state c.args.outlet.now)
    (g.W.Outlet.state c.step_on.new.outlet) c.args.kept.now.items c.push_start_if_due.new.text.items c.push_failed.new.text.items
    c.in_ok-push_start_if_due.ensures place c.sheet_of-sheet.result sheet_is c.spot_of-spot.result
    item spot_is c.step_on.new.machine c.step_on.new.kept.items c.step_on.new.progress
    c.in_ok-found.found c.in-Some.finding c.in-Some.is c.in_ok-push_failed-in-Some.ensures c.in_ok-found.ensures.steps
    c.if-is_behind.ensures c.of_finding.result c.of_finding.ensures
