use Rattle.std.proofs.Common.{◌≡◌, ◌++◌}
use Rattle.std.specs.List.{flat_map, range_with_len}
use Rattle.page_picture.specs.Rulers.{label}
use Rattle.page_picture.proofs.rulers.push_labels.Given as goal

abbrev pub invariant-loop-n : goal.invariant-loop-n
invariant-loop-n g l = l.text.items ≡ l.initial.text.items ++ flat_map (label l.start l.along l.scale) (range_with_len 0 l.n)
