use Rattle.std.proofs.Common.{rules, Ok, subst}
use Rattle.device_profile.specs.Text.{IsErrorOfText}
use Rattle.named_inputs.proofs.FleetFacts.{read_is_refused}
use Rattle.named_inputs.proofs.TextFacts.{read_judged, read_refused}
use Rattle.named_inputs.proofs.fleet.read_profile.Goals as goal

pub returns-in-Ok-clause-profile : goal.returns-in-Ok-clause-profile
returns-in-Ok-clause-profile g c =
    read_judged _ c.in_ok-text.text.items (Ok c.in-Ok.profile) c.in_ok-text.ensures.bytes (search rules)

pub returns-clause-profile : goal.returns-clause-profile
returns-clause-profile g c =
    read_refused _ c.in_ok-text.text.items c.args.number c.in-Err.fault _ c.in_ok-text.ensures.bytes
    (subst (λ bytes. IsErrorOfText bytes c.in-Err.fault) c.as_slice.ensures.value c.in-Err.ensures) c.refusal.ensures

pub returns-clause-given : goal.returns-clause-given
returns-clause-given g c =
    read_is_refused _ _ c.in_ok-text.text.items c.args.number c.in-Err.fault _ (search rules)
    (subst (λ bytes. IsErrorOfText bytes c.in-Err.fault) c.as_slice.ensures.value c.in-Err.ensures) c.refusal.ensures
