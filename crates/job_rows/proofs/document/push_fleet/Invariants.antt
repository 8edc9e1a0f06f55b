use Rattle.std.proofs.Common.{◌≡◌, ◌++◌, flat_map, map, take}
use Rattle.job_rows.specs.Document.{fleet_item}
use Rattle.job_rows.proofs.document.push_fleet.Given as goal

abbrev pub invariant-loop-name : goal.invariant-loop-name
invariant-loop-name g l =
    l.text.items ≡ l.initial.text.items ++ flat_map fleet_item (map (λ name. name.items) (take l.name-index l.names))
