use Rattle.std.proofs.Common.{◌≡◌, take}
use Rattle.foreign_calls.specs.Panels.{choices_of}
use Rattle.foreign_calls.proofs.panel_values.choices_of.Given as goal

abbrev pub invariant-loop-value : goal.invariant-loop-value
invariant-loop-value g l = l.choices.items ≡ choices_of (take l.value-index l.values)
