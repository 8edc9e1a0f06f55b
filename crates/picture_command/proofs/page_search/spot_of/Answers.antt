use Rattle.std.proofs.Common.{Some, ap, ◌∙◌}
use Rattle.device_profile.specs.Printer.{Printer}
use Rattle.page_env.specs.declared.page.Page.{Page}
use Rattle.page_env.specs.Settings.{state_at}
use Rattle.renderings.specs.Carriers.PageRendering.{any_panel}
use Rattle.picture_command.specs.PageSearch.{spot_of}
use Rattle.picture_command.proofs.Spots.{spot_known, spot_unknown}
use Rattle.picture_command.proofs.page_search.spot_of.Goals as goal

pub returns-in-Err : goal.returns-in-Err
returns-in-Err g c =
    spot_unknown c.profile.result.now (state_at any_panel c.page.result.now) _ (c.in-Err.ensures any_panel)
    ∙ ap (λ (p : Printer). spot_of p (state_at any_panel c.page.result.now)) c.profile.ensures
    ∙ ap (λ (q : Page). spot_of c.args.machine.now.printer (state_at any_panel q)) c.page.ensures

pub returns-in-Ok : goal.returns-in-Ok
returns-in-Ok g c =
    let known = c.in-Ok.ensures any_panel in
    (λ i. Some (record { x = c.of.ensures.x i; y = c.of.ensures.y i }))
    ∙ spot_known c.profile.result.now (state_at any_panel c.page.result.now) c.in-Ok.place.x c.in-Ok.place.y
    known.0 known.1 known.2
    ∙ ap (λ (p : Printer). spot_of p (state_at any_panel c.page.result.now)) c.profile.ensures
    ∙ ap (λ (q : Page). spot_of c.args.machine.now.printer (state_at any_panel q)) c.page.ensures
