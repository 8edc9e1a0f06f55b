use Rattle.std.proofs.Common.{◌≡◌, ◌++◌, flat_map, take}
use Rattle.profile_show.specs.Panel.{other_words}
use Rattle.profile_show.proofs.panel.push_others.Given as goal

abbrev pub invariant-loop-value : goal.invariant-loop-value
invariant-loop-value g l =
    l.text.items ≡ l.initial.text.items ++ flat_map (other_words l.profile.faces l.field) (take l.value-index l.values)
