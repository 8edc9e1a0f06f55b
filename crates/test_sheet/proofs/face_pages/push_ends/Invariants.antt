use Rattle.std.proofs.Common.{◌≡◌, ◌++◌, take}
use Rattle.std.specs.List.{flat_map}
use Rattle.test_sheet.specs.FacePages.{ends_of}
use Rattle.test_sheet.proofs.face_pages.push_ends.Given as goal

abbrev pub invariant-loop-range : goal.invariant-loop-range
invariant-loop-range g l = l.words.items ≡ l.initial.words.items ++ flat_map ends_of (take l.range-index l.ranges)
