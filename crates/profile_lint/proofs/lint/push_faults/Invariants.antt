use Rattle.std.proofs.Common.{◌≡◌, ◌++◌, flat_map, take}
use Rattle.profile_lint.specs.FaultLines.{fault_line}
use Rattle.profile_lint.proofs.lint.push_faults.Given as goal

abbrev pub invariant-loop-fault : goal.invariant-loop-fault
invariant-loop-fault g l = l.lines.items ≡ l.initial.lines.items ++ flat_map (fault_line l.word l.text) (take l.fault-index l.found)
