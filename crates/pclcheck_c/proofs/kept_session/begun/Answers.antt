use Rattle.std.proofs.Common.{◌≡◌, ◌↔◌, ◌∙◌, [], Err, List, ap, refl, subst}
use Rattle.device_profile.specs.Printer.{Printer}
use Rattle.preflight.specs.Kept.{HasKept}
use Rattle.streams.specs.declared.error.Error.TheVariants.{NoProfile}
use Rattle.pclcheck_c.specs.declared.kept_session.KeptSession.{KeptSession}
use Rattle.pclcheck_c.specs.Fleets.{asked}
use Rattle.pclcheck_c.proofs.Sessions.{begun_right, held_alike, stopped_alike}
use Rattle.pclcheck_c.proofs.kept_session.begun.Goals as goal

pub returns-in-Ok-clause-right : goal.returns-in-Ok-clause-right
returns-in-Ok-clause-right c =
    let are : c.profiles.result.now ≡ (asked c.args.fleet.now c.args.printer).fleet =
    c.profiles.ensures ∙ ap (λ group. group.fleet) c.asked-group.ensures in
    let session : KeptSession = record { printer = c.args.printer; check = c.in-Ok.check } in
    begun_right c.boxed.result (λ held. held.value) c.args.fleet.now session
    (subst (λ (printers : List Printer). HasKept printers [] c.in-Ok.check) are c.in-Ok.ensures.begun) c.boxed.ensures.right

pub returns-in-Ok-clause-no_printer : goal.returns-in-Ok-clause-no_printer
returns-in-Ok-clause-no_printer c =
    let are : c.profiles.result.now ≡ (asked c.args.fleet.now c.args.printer).fleet =
    c.profiles.ensures ∙ ap (λ group. group.fleet) c.asked-group.ensures in
    held_alike c.new.result c.boxed.result _
    (subst (λ (printers : List Printer). (c.new.result ≡ Err NoProfile) ↔ (printers ≡ [])) are c.new.ensures.no_profile) c.in-Ok.check
    c.in-Ok.is c.boxed.ensures.memory

pub returns-in-Err-clause-right : goal.returns-in-Err-clause-right
returns-in-Err-clause-right c = tt

pub returns-in-Err-clause-no_printer : goal.returns-in-Err-clause-no_printer
returns-in-Err-clause-no_printer c =
    let are : c.profiles.result.now ≡ (asked c.args.fleet.now c.args.printer).fleet =
    c.profiles.ensures ∙ ap (λ group. group.fleet) c.asked-group.ensures in
    stopped_alike c.new.result (Err c.in-Err.error) _
    (subst (λ (printers : List Printer). (c.new.result ≡ Err NoProfile) ↔ (printers ≡ [])) are c.new.ensures.no_profile) c.in-Err.error
    c.in-Err.is refl
