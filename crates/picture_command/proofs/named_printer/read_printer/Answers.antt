use Rattle.std.proofs.Common.{◌≡◌, ◌∙◌, [], ◌∷◌, ◌++◌, ap, subst, refl, rules, Ok}
use Rattle.device_profile.specs.Name.{printer_name}
use Rattle.device_profile.specs.Text.{IsErrorOfText, printer_of_text}
use Rattle.named_inputs.proofs.TextFacts.{read_judged, read_refused}
use Rattle.picture_command.proofs.named_printer.read_printer.Goals as goal

pub returns-in-Ok-clause-printer : goal.returns-in-Ok-clause-printer
returns-in-Ok-clause-printer g c =
    let text = c.in_ok-text.text.items in
    let before = g.T.ProfileTexts.given c.args.texts.now in
    let after = g.T.ProfileTexts.given c.read_text.new.self in
    let read : after ≡ before ++ text ∷ [] = search rules in
    let judged : printer_of_text text ≡ Ok c.in-Ok.profile = search rules in (
      printer_name text,
      c.in_ok-names-in-Ok.ensures.names ∙ ap (λ bytes. printer_name bytes ∷ []) c.as_slice-in-Ok.ensures.value,
      ((read_judged _ text (Ok c.in-Ok.profile) c.in_ok-text.ensures.bytes judged, (text ∷ [], read, (judged, tt))), (text, read, refl)),
    )

pub returns-clause-printer : goal.returns-clause-printer
returns-clause-printer g c =
    read_refused _ c.in_ok-text.text.items 1 c.in-Err.fault _ c.in_ok-text.ensures.bytes
    (subst (λ bytes. IsErrorOfText bytes c.in-Err.fault) c.as_slice.ensures.value c.in-Err.ensures) c.refusal.ensures
