use Rattle.std.proofs.Common.{◌≡◌, ◌++◌, take}
use Rattle.std.specs.List.{flat_map}
use Rattle.pjl_answer.specs.Warning.{warning_line}
use Rattle.pjl_answer.proofs.warning_text.push_warning_lines.Given as goal

abbrev pub invariant-loop-warning : goal.invariant-loop-warning
invariant-loop-warning g l = l.text.items ≡ l.initial.text.items ++ flat_map (warning_line l.start l.answer) (take l.warning-index l.all)
