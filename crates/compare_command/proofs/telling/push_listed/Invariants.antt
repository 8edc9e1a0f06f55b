use Rattle.std.proofs.Common.{◌≡◌, ◌++◌, take}
use Rattle.std.specs.List.{flat_map}
use Rattle.compare_command.specs.Telling.{listed_text, told_by}
use Rattle.compare_command.proofs.telling.push_listed.Given as goal

abbrev pub invariant-loop-difference : goal.invariant-loop-difference
invariant-loop-difference l =
    l.text.items ≡ l.initial.text.items ++ flat_map (listed_text (told_by l.telling) l.number) (take l.difference-index l.listed)
