use Rattle.std.proofs.Common.{◌≡◌, ◌++◌, map, take}
use Rattle.std.specs.List.{flat_map}
use Rattle.survey.specs.Objects.{row_object}
use Rattle.survey.proofs.objects.push_rows.Given as goal

abbrev pub invariant-loop-row : goal.invariant-loop-row
invariant-loop-row g l =
    l.text.items ≡ l.initial.text.items ++ flat_map (row_object (map (λ name. name.now) l.names)) (take l.row-index l.rows)
