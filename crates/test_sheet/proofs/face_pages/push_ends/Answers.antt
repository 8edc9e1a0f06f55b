use Rattle.std.proofs.Common.{◌++◌, ◌∙◌, ap, flat_map}
use Rattle.std.proofs.lemmas.List.{take_all}
use Rattle.shown_bytes.proofs.Further.{further}
use Rattle.test_sheet.specs.FacePages.{ends_of}
use Rattle.test_sheet.proofs.face_pages.push_ends.Goals as goal

pub loop-range-preserved : goal.loop-range-preserved
loop-range-preserved g c =
    further ends_of c.args.ranges.now c.loop-range.range-index _
    c.args.words.now.items c.loop-range.words.items c.push_ends_of.new.words.items
    c.loop-range-test.true c.loop-range.invariant c.in_ok-push_ends_of.ensures

pub returns : goal.returns
returns g c =
    c.loop-range.invariant
    ∙ ap (λ ranges. c.args.words.now.items ++ flat_map ends_of ranges) (take_all _ _ c.loop-range-test.false)
