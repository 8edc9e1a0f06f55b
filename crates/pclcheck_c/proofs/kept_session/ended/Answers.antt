use Rattle.std.proofs.Common.{◌≡◌, ◌∙◌, List, ap, subst, sym}
use Rattle.device_profile.specs.Printer.{Printer}
use Rattle.preflight.specs.Kept.{HasEnded, HasKept, IsGoing}
use Rattle.pclcheck_c.specs.Fleets.{asked}
use Rattle.pclcheck_c.proofs.kept_session.ended.Goals as goal

pub end-requires : goal.end-requires
end-requires c =
    let are : c.profiles.result.now ≡ (asked c.args.fleet.now c.args.printer).fleet =
    c.profiles.ensures ∙ ap (λ group. group.fleet) c.asked-group.ensures in
    subst (λ (printers : List Printer). IsGoing printers c.args.check) (sym are) c.requires

pub returns-clause-ended : goal.returns-clause-ended
returns-clause-ended c = λ bytes.
    let are : c.profiles.result.now ≡ (asked c.args.fleet.now c.args.printer).fleet =
    c.profiles.ensures ∙ ap (λ group. group.fleet) c.asked-group.ensures in
    subst (λ (printers : List Printer). HasKept printers bytes c.args.check → HasEnded printers bytes c.end.result) are
    (c.end.ensures.ended bytes)

pub returns-clause-over : goal.returns-clause-over
returns-clause-over c = c.end.ensures.over

pub returns-clause-again : goal.returns-clause-again
returns-clause-again c = c.end.ensures.again
