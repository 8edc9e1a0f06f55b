use Rattle.std.proofs.Common.{◌≡◌, ◌++◌}
use Rattle.std.specs.List.{flat_map, range_with_len}
use Rattle.page_pdf.specs.Objects.{label_reference}
use Rattle.page_pdf.proofs.objects.push_label_references.Given as goal

abbrev pub invariant-loop-index : goal.invariant-loop-index
invariant-loop-index g l = l.text.items ≡ l.initial.text.items ++ flat_map label_reference (range_with_len 0 l.index)
