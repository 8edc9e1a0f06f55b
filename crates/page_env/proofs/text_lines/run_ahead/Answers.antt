use Rattle.std.proofs.Common.{take, subst, arith}
use Rattle.page_env.specs.TextLines.{CanGoIn}
use Rattle.page_env.specs.TextMeasure.{TextMeasure}
use Rattle.page_env.proofs.Lanes.{same_first}
use Rattle.page_env.proofs.TextRooms.{first_can_go}
use Rattle.page_env.proofs.text_lines.run_ahead.Goals as goal

pub run_of-requires-clause-in_face : goal.run_of-requires-clause-in_face
run_of-requires-clause-in_face g c =
    let text = c.text_of_face-text.ensures in
    subst (λ (m : TextMeasure). CanGoIn m.codes (take c.columns_ahead-count.result c.args.bytes.now)) c.measure.view_is
    (first_can_go c.measure.inside.face.now.codes c.columns_ahead-count.result c.text_of_face-text.result.all c.min-most.result
    c.args.bytes.now c.columns_ahead-count.ensures.most text.short (omega (arith, c.min-most.ensures)) text.known)

pub inked_of-inked-requires-clause-known : goal.inked_of-inked-requires-clause-known
inked_of-inked-requires-clause-known g c =
    let text = c.text_of_face-text.ensures in
    same_first c.columns_ahead-count.result c.text_of_face-text.result.all c.min-most.result c.args.bytes.now
    c.text_of_face-text.result.inked c.columns_ahead-count.ensures.most (omega (arith, c.min-most.ensures)) text.short text.inked
