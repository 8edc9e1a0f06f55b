use Rattle.std.proofs.Common.{◌≡◌, ◌++◌, length, map}
use Rattle.many_requests.specs.Names.{names_in}
use Rattle.many_requests.proofs.names.push_names.Given as goal

abbrev pub invariant-loop-name : goal.invariant-loop-name
invariant-loop-name l =
    map (λ name. name.now) l.all.items ++ names_in l.rest ≡ map (λ name. name.now) l.initial.all.items ++ names_in l.initial.rest

abbrev pub decreases-loop-name : goal.decreases-loop-name
decreases-loop-name l = length l.rest
