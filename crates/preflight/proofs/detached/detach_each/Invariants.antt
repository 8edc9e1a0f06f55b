use Rattle.std.proofs.Common.{◌≡◌, ◌++◌, length, map, reverse}
use Rattle.page_machine.specs.Detached.{detached}
use Rattle.preflight.proofs.detached.detach_each.Given as goal

abbrev pub invariant-loop-machine : goal.invariant-loop-machine
invariant-loop-machine g l =
    map detached l.machines.items ++ reverse l.left.items ≡ map detached l.fn.machines.items

abbrev pub decreases-loop-machine : goal.decreases-loop-machine
decreases-loop-machine g l = length l.machines.items
