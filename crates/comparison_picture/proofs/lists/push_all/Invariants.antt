use Rattle.std.proofs.Common.{◌≡◌, ◌++◌, take}
use Rattle.std.specs.List.{flat_map}
use Rattle.comparison_picture.specs.Lists.{told_in}
use Rattle.comparison_picture.proofs.lists.push_all.Given as goal

abbrev pub invariant-loop-difference : goal.invariant-loop-difference
invariant-loop-difference g l =
    l.text.items ≡ l.initial.text.items ++ flat_map (told_in l.form) (take l.difference-index l.differences)
