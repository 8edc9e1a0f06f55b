use Rattle.std.proofs.Common.{◌≡◌, ◌++◌, flat_map, take}
use Rattle.profile_lint.specs.Whole.{ungiven_fault}
use Rattle.profile_lint.proofs.whole.push_ungiven_faults.Given as goal

abbrev pub invariant-loop-key : goal.invariant-loop-key
invariant-loop-key g l = l.faults.items ≡ l.initial.faults.items ++ flat_map (ungiven_fault l.draft l.on_lines) (take l.key-index l.keys)
