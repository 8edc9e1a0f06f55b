use Rattle.std.proofs.Common.{◌≡◌}
use Rattle.many_requests.proofs.looks.first_same.Given as goal

-- no look has found a file so far
abbrev pub invariant-loop-word : goal.invariant-loop-word
invariant-loop-word g l = l.used ≡ l.initial.used
