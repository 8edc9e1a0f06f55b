use Rattle.std.proofs.Common.{◌≡◌, ◌++◌, ◌∙◌, take, ap}
use Rattle.std.proofs.lemmas.List.{take_all}
use Rattle.test_sheet.specs.FacePages.{face_entries, face_entry}
use Rattle.test_sheet.proofs.Enumerated.{entries_more}
use Rattle.test_sheet.proofs.face_pages.push_face_entries.Goals as goal

pub loop-index-preserved : goal.loop-index-preserved
loop-index-preserved g c =
    let more = entries_more (λ entry. face_entry c.args.area c.args.first.now entry.0 entry.1) c.args.text.now.items c.args.faces.now
    c.loop-index.index c.index-faces-index.result c.loop-index-test.true in
    let written = c.in_ok-push_face_entry.ensures in
    let before = c.loop-index.invariant in
    let is = c.index-faces-index.is in
    cc

pub returns : goal.returns
returns g c =
    let all : take c.loop-index.index c.args.faces.now ≡ c.args.faces.now = take_all _ _ c.loop-index-test.false in
    c.loop-index.invariant ∙ (ap (λ faces. c.args.text.now.items ++ face_entries c.args.area c.args.first.now faces) all)
