use Rattle.std.proofs.Common.{◌≡◌, false, option_map, take}
use Rattle.std.specs.List.{list_any}
use Rattle.meanings.specs.CommandsTold.{asks_of}
use Rattle.meanings.proofs.commands_told.asks_of_some.Given as goal

abbrev pub invariant-loop-text : goal.invariant-loop-text
invariant-loop-text l =
    list_any (λ text. asks_of (option_map (λ word. word.now) l.code) text.now) (take l.text-index l.commands) ≡ false
