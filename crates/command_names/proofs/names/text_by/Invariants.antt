use Rattle.std.proofs.Common.{◌≡◌, drop, map}
use Rattle.command_names.specs.CommandNames.{text_by}
use Rattle.command_names.proofs.names.text_by.Given as goal

abbrev pub invariant-loop-text : goal.invariant-loop-text
invariant-loop-text l =
    text_by l.key (map (λ text. text.now) l.texts) ≡ text_by l.key (map (λ text. text.now) (drop l.text-index l.texts))
