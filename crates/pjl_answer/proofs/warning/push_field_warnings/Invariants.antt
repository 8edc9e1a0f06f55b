use Rattle.std.proofs.Common.{◌≡◌, ◌++◌, take}
use Rattle.std.specs.List.{filter_map}
use Rattle.pjl_answer.specs.Warning.{field_warning}
use Rattle.pjl_answer.proofs.warning.push_field_warnings.Given as goal

abbrev pub invariant-loop-field : goal.invariant-loop-field
invariant-loop-field g l = l.all.items ≡ l.initial.all.items ++ filter_map (field_warning l.base l.answer) (take l.field-index l.fields)
