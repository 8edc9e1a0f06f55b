use Rattle.std.proofs.Common.{◌≡◌, ◌++◌}
use Rattle.std.specs.List.{flat_map, range_with_len}
use Rattle.page_pdf.specs.Maps.{map_entry}
use Rattle.page_pdf.proofs.maps.push_entries.Given as goal

abbrev pub invariant-loop-code : goal.invariant-loop-code
invariant-loop-code g l = l.text.items ≡ l.initial.text.items ++ flat_map (map_entry l.repertoire) (range_with_len 0 l.code)
