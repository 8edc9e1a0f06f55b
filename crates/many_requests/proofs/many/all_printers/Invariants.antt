use Rattle.std.proofs.Common.{◌≡◌, ◌++◌, map, take}
use Rattle.std.specs.Prelude.{string_bytes}
use Rattle.many_requests.proofs.many.all_printers.Given as goal

abbrev pub invariant-loop-word : goal.invariant-loop-word
invariant-loop-word l =
    map (λ word. word.now) l.all.items ≡ map (λ word. word.now) l.printers ++ map string_bytes (take l.word-index l.fleets)
