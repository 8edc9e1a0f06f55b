use Rattle.std.proofs.Common.{rules, ◌≡◌, cond, Some, None}
use Rattle.page_env.specs.declared.frames.Frame.{Frame}
use Rattle.page_env.specs.declared.mark.PenLine.{PenLine}
use Rattle.page_env.specs.declared.page.PenPlace.{PenPlace}
use Rattle.page_env.specs.Mark.{line_bounds, is_inside}
use Rattle.page_env.specs.Frames.{frame_on}
use Rattle.page_env.specs.Pens.{place_of, line_between, stays_in_frame}
use Rattle.page_env.proofs.PenMoves.{line_passes}
use Rattle.page_env.proofs.pens.judged.Goals as goal

pub returns : goal.returns
returns c =
    let g = c.args.geometry.now in
    let pen = c.args.job.now.pen in
    let frame : Frame = frame_on g c.args.job.now.frame in
    let start : PenPlace = place_of c.own_place-start.result in
    let to : PenPlace = place_of c.args.to in
    let line : PenLine = line_between c.args.origin frame pen.width start to in
    let drawn : Some c.in-Some.line ≡ cond (is_inside g (line_bounds line)) (Some line) None = search rules in
    let stays : Some c.in-Some-place_within.place ≡ cond (stays_in_frame frame start to) (Some to) None = search rules in
    line_passes g c.args.origin frame pen.width pen.place start to c.in-Some-place_within.place c.in-Some.line
    c.own_place-start.ensures drawn stays
