use Rattle.std.proofs.Common.{◌≡◌, ◌++◌, take}
use Rattle.std.specs.List.{enumerate_from, flat_map}
use Rattle.test_sheet.specs.FacePages.{face_entry}
use Rattle.test_sheet.proofs.face_pages.push_face_entries.Given as goal

abbrev pub invariant-loop-index : goal.invariant-loop-index
invariant-loop-index g l =
    l.text.items ≡ l.initial.text.items
    ++ flat_map (λ entry. face_entry l.area l.first entry.0 entry.1) (enumerate_from 0 (take l.index l.faces))
