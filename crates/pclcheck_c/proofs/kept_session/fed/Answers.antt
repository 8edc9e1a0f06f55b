use Rattle.std.proofs.Common.{◌≡◌, ◌∙◌, ◌++◌, List, ap, subst, sym}
use Rattle.device_profile.specs.Printer.{Printer}
use Rattle.preflight.specs.Kept.{HasKept, IsGoing}
use Rattle.pclcheck_c.specs.Fleets.{asked}
use Rattle.pclcheck_c.proofs.kept_session.fed.Goals as goal

pub feed-requires : goal.feed-requires
feed-requires c =
    let are : c.profiles.result.now ≡ (asked c.args.fleet.now c.args.printer).fleet =
    c.profiles.ensures ∙ ap (λ group. group.fleet) c.asked-group.ensures in
    subst (λ (printers : List Printer). IsGoing printers c.args.check) (sym are) c.requires

pub returns-clause-fed : goal.returns-clause-fed
returns-clause-fed c = λ bytes.
    let are : c.profiles.result.now ≡ (asked c.args.fleet.now c.args.printer).fleet =
    c.profiles.ensures ∙ ap (λ group. group.fleet) c.asked-group.ensures in
    subst
    (λ (printers : List Printer). HasKept printers bytes c.args.check → HasKept printers (bytes ++ c.args.piece.now) c.feed.result)
    are (c.feed.ensures.fed bytes)

pub returns-clause-going : goal.returns-clause-going
returns-clause-going c =
    let are : c.profiles.result.now ≡ (asked c.args.fleet.now c.args.printer).fleet =
    c.profiles.ensures ∙ ap (λ group. group.fleet) c.asked-group.ensures in
    subst (λ (printers : List Printer). IsGoing printers c.feed.result) are c.feed.ensures.going
