use Rattle.std.proofs.Common.{◌≡◌, ◌++◌, flat_map, take}
use Rattle.profile_lint.specs.Whole.{unheld}
use Rattle.profile_lint.proofs.whole.push_each_unheld.Given as goal

abbrev pub invariant-loop-value : goal.invariant-loop-value
invariant-loop-value g l = l.faults.items ≡ l.initial.faults.items ++ flat_map (unheld l.draft l.field) (take l.value-index l.values)
