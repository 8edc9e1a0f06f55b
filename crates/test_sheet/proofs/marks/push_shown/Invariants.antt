use Rattle.std.proofs.Common.{◌≡◌, ◌++◌, map, take}
use Rattle.test_sheet.specs.Marks.{shown}
use Rattle.test_sheet.proofs.marks.push_shown.Given as goal

abbrev pub invariant-loop-byte : goal.invariant-loop-byte
invariant-loop-byte g l = l.text.items ≡ l.initial.text.items ++ map (shown l.face) (take l.byte-index l.bytes)
