use Rattle.std.proofs.Common.{◌≡◌, ◌++◌, map, take}
use Rattle.std.specs.List.{flat_map}
use Rattle.survey.specs.Lines.{row_line}
use Rattle.survey.proofs.lines.push_rows.Given as goal

abbrev pub invariant-loop-row : goal.invariant-loop-row
invariant-loop-row g l =
    l.text.items ≡ l.initial.text.items ++ flat_map (row_line (map (λ name. name.now) l.names)) (take l.row-index l.rows)
