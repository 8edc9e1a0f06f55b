use Rattle.std.proofs.Common.{◌≡◌, ◌++◌, flat_map, take}
use Rattle.profile_lint.specs.Whole.{unpaired}
use Rattle.profile_lint.proofs.whole.push_faults_of_size.Given as goal

abbrev pub invariant-loop-orientation : goal.invariant-loop-orientation
invariant-loop-orientation g l =
    l.faults.items ≡ l.initial.faults.items ++ flat_map (unpaired l.rows l.size) (take l.orientation-index l.orientations)
