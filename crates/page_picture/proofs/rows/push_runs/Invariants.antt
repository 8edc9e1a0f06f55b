use Rattle.std.proofs.Common.{◌≡◌, ◌++◌}
use Rattle.std.specs.List.{flat_map, range_with_len}
use Rattle.page_picture.specs.Rows.{run_at}
use Rattle.page_picture.proofs.rows.push_runs.Given as goal

abbrev pub invariant-loop-pixel : goal.invariant-loop-pixel
invariant-loop-pixel g l = l.text.items ≡ l.initial.text.items ++ flat_map (run_at l.bytes) (range_with_len 0 l.pixel)
