use Rattle.std.proofs.Common.{◌≡◌, ◌∙◌, ap, refl, None, []}
use Rattle.pcl_lexer.specs.Reading.{Stopped}
use Rattle.device_profile.specs.Printer.{Printer}
use Rattle.page_env.specs.declared.page.Page.{Page}
use Rattle.page_env.specs.Settings.{state_at}
use Rattle.renderings.specs.Carriers.PageRendering.{any_panel}
use Rattle.renderings.proofs.Renderings.{end_none}
use Rattle.job_picture.specs.Carriers.Rest.{drawn_from}
use Rattle.job_picture.specs.Failing.{spot_of}
use Rattle.job_picture.specs.Sheet.{sheet_of}
use Rattle.job_picture.proofs.Tellings.{fault_fails}
use Rattle.job_picture.proofs.job_picture.JobPictureRenderer.fault.Goals as goal

pub returns-in_err-push_start_if_due-clause-rendered : goal.returns-in_err-push_start_if_due-clause-rendered
returns-in_err-push_start_if_due-clause-rendered g c =
    let own = c.args.self.now in
    end_none (drawn_from own.wanted.selection own.wanted.sentence.now own.machine own.progress own.is_started)
    (λ reading. reading ≡ Stopped [] c.args.fault.place c.args.fault.cause) (g.W.Outlet.state c.args._outlet.now) c.args.kept.now.items
    c.push_start_if_due.new.text.items c.from_residual.result c.from_residual.ensures.0

pub returns-in_err-push_failed-clause-rendered : goal.returns-in_err-push_failed-clause-rendered
returns-in_err-push_failed-clause-rendered g c =
    let own = c.args.self.now in
    end_none (drawn_from own.wanted.selection own.wanted.sentence.now own.machine own.progress own.is_started)
    (λ reading. reading ≡ Stopped [] c.args.fault.place c.args.fault.cause) (g.W.Outlet.state c.args._outlet.now) c.args.kept.now.items
    c.push_failed.new.text.items c.from_residual-in_err-push_failed.result c.from_residual-in_err-push_failed.ensures.0

pub returns-clause-rendered : goal.returns-clause-rendered
returns-clause-rendered g c =
    let own = c.args.self.now in
    let selection = own.wanted.selection in
    let sentence = own.wanted.sentence.now in
    let place = c.args.fault.place in
    let sheet_is : c.sheet_of-sheet.result ≡ sheet_of place selection sentence own.machine.printer (state_at any_panel own.machine.page) =
    c.sheet_of-sheet.ensures
    ∙ (ap (λ (printer : Printer). sheet_of place selection sentence printer (state_at any_panel c.page.result.now)) c.profile.ensures
    ∙ ap (λ (page : Page). sheet_of place selection sentence own.machine.printer (state_at any_panel page)) c.page.ensures) in
    let spot_is : c.spot_of-spot.result ≡ spot_of c.sheet_of-sheet.result.paper (state_at any_panel own.machine.page) None =
    c.spot_of-spot.ensures ∙ ap (λ (page : Page). spot_of c.sheet_of-sheet.result.paper (state_at any_panel page) None) c.page-2.ensures in
    let outlet = g.W.Outlet.state c.args._outlet.now in
    fault_fails selection sentence own.machine own.progress own.is_started outlet outlet c.args.kept.now.items
    c.push_start_if_due.new.text.items c.push_failed.new.text.items c.in_ok-push_start_if_due.ensures place c.sheet_of-sheet.result sheet_is
    c.spot_of-spot.result spot_is c.args.fault.cause refl c.in_ok-push_failed.ensures c.of_fault.result c.of_fault.ensures
