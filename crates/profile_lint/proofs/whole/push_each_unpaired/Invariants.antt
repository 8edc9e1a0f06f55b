use Rattle.std.proofs.Common.{◌≡◌, ◌++◌, flat_map, take}
use Rattle.profile_lint.specs.Whole.{faults_of_size}
use Rattle.profile_lint.proofs.whole.push_each_unpaired.Given as goal

abbrev pub invariant-loop-size : goal.invariant-loop-size
invariant-loop-size g l =
    l.faults.items ≡ l.initial.faults.items ++ flat_map (faults_of_size l.rows l.orientations) (take l.size-index l.sizes)
