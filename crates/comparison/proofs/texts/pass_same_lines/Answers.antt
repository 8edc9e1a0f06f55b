use Rattle.comparison.proofs.SameLines.{lines_compare}
use Rattle.comparison.proofs.texts.pass_same_lines.Goals as goal

pub pass_lines-requires-clause-next : goal.pass_lines-requires-clause-next
pass_lines-requires-clause-next g c = let both = c.in-Some.ensures in (both.look, both.from, both.old_next)

pub pass_lines-requires-2-clause-running : goal.pass_lines-requires-2-clause-running
pass_lines-requires-2-clause-running g c = c.in-Some.ensures.running

pub pass_lines-requires-2-clause-level : goal.pass_lines-requires-2-clause-level
pass_lines-requires-2-clause-level g c = c.in-Some.ensures.level

pub pass_lines-requires-2-clause-next : goal.pass_lines-requires-2-clause-next
pass_lines-requires-2-clause-next g c = let both = c.in-Some.ensures in (both.look, both.from, both.new_next)

pub returns-clause-compared : goal.returns-clause-compared
returns-clause-compared g c = λ _.
    lines_compare c.in-Some.lines c.args.first.now c.pass_lines.new.self c.args.second.now c.pass_lines-2.new.self c.args.spot.now
    c.count_marks.new.self c.in-Some.ensures c.pass_lines.ensures.passed c.pass_lines-2.ensures.passed c.count_marks.ensures
