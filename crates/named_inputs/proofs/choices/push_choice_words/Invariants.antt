use Rattle.std.proofs.Common.{◌≡◌, ◌++◌, flat_map, take}
use Rattle.named_inputs.specs.Choices.{choice_word}
use Rattle.named_inputs.proofs.choices.push_choice_words.Given as goal

abbrev pub invariant-loop-value : goal.invariant-loop-value
invariant-loop-value g l = l.line.items ≡ l.initial.line.items ++ flat_map (choice_word l.field) (take l.value-index l.values)
