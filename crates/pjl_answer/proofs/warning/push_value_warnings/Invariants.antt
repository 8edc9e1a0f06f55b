use Rattle.std.proofs.Common.{◌≡◌, ◌++◌, take}
use Rattle.std.specs.List.{filter_map}
use Rattle.pjl_answer.specs.Warning.{value_warning}
use Rattle.pjl_answer.proofs.warning.push_value_warnings.Given as goal

abbrev pub invariant-loop-variable : goal.invariant-loop-variable
invariant-loop-variable g l = l.all.items ≡ l.initial.all.items ++ filter_map (value_warning l.answer) (take l.variable-index l.variables)
