use Rattle.std.proofs.Common.{List, ap, ◌∙◌}
use Rattle.device_profile.specs.Faces.{Face}
use Rattle.device_profile.specs.Nearest.{nearest_request}
use Rattle.device_profile.specs.Printer.{Printer}
use Rattle.page_env.specs.declared.page.Page.{Page}
use Rattle.page_env.specs.Settings.{state_at}
use Rattle.renderings.specs.Carriers.PageRendering.{any_panel}
use Rattle.picture_command.specs.PageSearch.{font_of}
use Rattle.picture_command.proofs.Spots.{font_known, font_unknown}
use Rattle.picture_command.proofs.page_search.font_of.Goals as goal

pub returns-in-Err : goal.returns-in-Err
returns-in-Err g c =
    font_unknown c.profile-profile.result.now (state_at any_panel c.page.result.now) _ (c.in-Err.ensures any_panel)
    ∙ ap (λ (p : Printer). font_of p (state_at any_panel c.page.result.now)) c.profile-profile.ensures
    ∙ ap (λ (q : Page). font_of c.args.machine.now.printer (state_at any_panel q)) c.page.ensures

pub returns-in-Ok : goal.returns-in-Ok
returns-in-Ok g c =
    let known = c.in-Ok.ensures any_panel in
    font_known c.profile-profile.result.now (state_at any_panel c.page.result.now) c.in-Ok.asked c.nearest_request-nearest.result
    known.0 known.1
    (c.nearest_request-nearest.ensures ∙ ap (λ (faces : List Face). nearest_request faces c.in-Ok.asked) c.faces.ensures)
    ∙ ap (λ (p : Printer). font_of p (state_at any_panel c.page.result.now)) c.profile-profile.ensures
    ∙ ap (λ (q : Page). font_of c.args.machine.now.printer (state_at any_panel q)) c.page.ensures
