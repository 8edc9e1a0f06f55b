use Rattle.std.proofs.Common.{◌≡◌, ◌++◌, take}
use Rattle.std.specs.List.{flat_map}
use Rattle.page_pdf.specs.Table.{table_entry}
use Rattle.page_pdf.proofs.table.push_entries.Given as goal

abbrev pub invariant-loop-place : goal.invariant-loop-place
invariant-loop-place g l = l.text.items ≡ l.initial.text.items ++ flat_map table_entry (take l.place-index l.places)
