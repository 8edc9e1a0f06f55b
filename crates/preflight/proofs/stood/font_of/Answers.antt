use Rattle.std.proofs.Common.{List, ap, sym, ◌∙◌}
use Rattle.device_profile.specs.Faces.{Face}
use Rattle.device_profile.specs.Nearest.{nearest_request}
use Rattle.device_profile.specs.Printer.{Printer}
use Rattle.page_env.specs.declared.page.Page.{Page}
use Rattle.page_env.specs.FontInForce.{request_of}
use Rattle.page_env.specs.Settings.{state_at}
use Rattle.preflight.proofs.stood.font_of.Goals as goal

pub returns-in-Ok : goal.returns-in-Ok
returns-in-Ok g c = λ panel.
    let known = c.in-Ok.ensures panel in (
      sym known.1
          ∙ ap (λ (p : Printer). request_of p (state_at panel c.page.result.now)) c.profile-profile.ensures
          ∙ ap (λ (q : Page). request_of c.args.machine.now.printer (state_at panel q)) c.page.ensures,
      c.nearest_request-nearest.ensures
          ∙ ap (λ (faces : List Face). nearest_request faces c.in-Ok.asked)
          (c.faces.ensures ∙ ap (λ (p : Printer). p.faces) c.profile-profile.ensures),
    )
