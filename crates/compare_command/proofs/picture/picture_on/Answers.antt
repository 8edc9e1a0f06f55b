use Rattle.std.proofs.Common.{◌≡◌, ◌∙◌, IfOk, Option, ap, length, refl, subst, sym}
use Rattle.std.specs.List.{slice_get}
use Rattle.std.specs.Prelude.{option_map}
use Rattle.std.proofs.lemmas.Option.{slice_get_past, slice_get_read}
use Rattle.device_profile.specs.Printer.{Printer}
use Rattle.page_comparison.specs.Comparison.{told_differences}
use Rattle.compare_command.specs.Pictures.{picture_on}
use Rattle.compare_command.specs.Telling.{told_by}
use Rattle.compare_command.proofs.picture.picture_on.Goals as goal

pub returns-in-Some : goal.returns-in-Some
returns-in-Some c =
    let fleet = c.args.fleet.now in
    let item = c.in-Some.ensures.lookup in
    let found = slice_get_read fleet (length fleet) c.saturating_sub.result c.in-Some.profile.now refl item.3.0 item.1 in
    subst
    (λ (printer : Option Printer). IfOk c.picture_for.result (λ picture. option_map (λ text. text.items) picture
    ≡ picture_on (told_by c.args.telling.now) c.args.nearness printer c.args.number (told_differences c.args.differences.now)))
    (sym found ∙ ap (slice_get fleet) c.saturating_sub.ensures) c.picture_for.ensures

pub returns-in-None : goal.returns-in-None
returns-in-None c =
    let fleet = c.args.fleet.now in
    ap
    (λ (printer : Option Printer).
    picture_on (told_by c.args.telling.now) c.args.nearness printer c.args.number (told_differences c.args.differences.now))
    (sym (slice_get_past fleet c.saturating_sub.result c.in-None.ensures.lookup.3) ∙ ap (slice_get fleet) c.saturating_sub.ensures)
