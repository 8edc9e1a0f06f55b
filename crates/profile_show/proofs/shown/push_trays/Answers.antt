use Rattle.std.proofs.Common.{◌++◌, ◌∙◌, ap}
use Rattle.std.proofs.lemmas.List.{take_all}
use Rattle.profile_show.specs.Shown.{tray_words}
use Rattle.profile_show.proofs.shown.push_trays.Goals as goal

pub returns : goal.returns
returns g c =
    c.loop-tray.invariant ∙ ap (λ trays. c.args.text.now.items ++ tray_words trays) (take_all _ _ c.loop-tray-test.false)
