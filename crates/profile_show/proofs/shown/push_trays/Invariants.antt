use Rattle.std.proofs.Common.{◌≡◌, ◌++◌, take}
use Rattle.profile_show.specs.Shown.{tray_words}
use Rattle.profile_show.proofs.shown.push_trays.Given as goal

abbrev pub invariant-loop-tray : goal.invariant-loop-tray
invariant-loop-tray g l = l.text.items ≡ l.initial.text.items ++ tray_words (take l.tray-index l.trays)
