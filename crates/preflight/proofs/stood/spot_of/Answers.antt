use Rattle.std.proofs.Common.{ap, ◌∙◌}
use Rattle.device_profile.specs.Printer.{Printer}
use Rattle.page_env.specs.declared.page.Page.{Page}
use Rattle.page_env.specs.Places.{x_on_sheet, y_on_sheet}
use Rattle.page_env.specs.Settings.{state_at}
use Rattle.preflight.proofs.stood.spot_of.Goals as goal

pub returns-in-Ok : goal.returns-in-Ok
returns-in-Ok g c = λ panel.
    let known = c.in-Ok.ensures panel in
    let printer : Printer = c.args.machine.now.printer in (
      c.of.ensures.x ∙ known.1 ∙ ap (λ (p : Printer). x_on_sheet p (state_at panel c.page.result.now)) c.profile.ensures
          ∙ ap (λ (q : Page). x_on_sheet printer (state_at panel q)) c.page.ensures,
      c.of.ensures.y ∙ known.2 ∙ ap (λ (p : Printer). y_on_sheet p (state_at panel c.page.result.now)) c.profile.ensures
          ∙ ap (λ (q : Page). y_on_sheet printer (state_at panel q)) c.page.ensures,
    )
