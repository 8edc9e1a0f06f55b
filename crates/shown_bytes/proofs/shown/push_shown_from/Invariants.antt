use Rattle.std.proofs.Common.{◌≡◌, ◌++◌, take}
use Rattle.std.specs.List.{flat_map}
use Rattle.shown_bytes.specs.Shown.{shown_from}
use Rattle.shown_bytes.proofs.shown.push_shown_from.Given as goal

abbrev pub invariant-loop-byte : goal.invariant-loop-byte
invariant-loop-byte g l = l.out.items ≡ l.initial.out.items ++ flat_map (shown_from l.first) (take l.byte-index l.bytes)
