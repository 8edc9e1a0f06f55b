use Rattle.std.proofs.Common.{◌<◌, length, arith}
use Rattle.pjl_answer.proofs.Parts.{one_part, two_parts}
use Rattle.pjl_answer.proofs.line.first_part.Goals as goal

pub returns-then-end-line-clause-parts : goal.returns-then-end-line-clause-parts
returns-then-end-line-clause-parts c = one_part c.args.line.now c.place_of-end.result c.place_of-end.ensures.place (omega arith)

pub returns-else-end-line-clause-parts : goal.returns-else-end-line-clause-parts
returns-else-end-line-clause-parts c =
    let inside : c.place_of-end.result < length c.args.line.now = omega (arith, c.place_of-end.ensures.within) in
    two_parts c.args.line.now c.place_of-end.result c.place_of-end.ensures.place inside
