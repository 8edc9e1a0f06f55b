use Rattle.comparison.proofs.Partings.{lines_counted}
use Rattle.comparison.proofs.texts.count_lines.Goals as goal

pub pass_lines-requires-clause-next : goal.pass_lines-requires-clause-next
pass_lines-requires-clause-next g c = c.in-Some.ensures

pub returns-clause-counted : goal.returns-clause-counted
returns-clause-counted g c = λ _.
    lines_counted c.in-Some.text c.in-Some.ensures.0 c.in-Some.ensures.1 c.args.job.now c.pass_lines.new.self c.args.spot.now
    c.count_marks.new.self c.in-Some.ensures.2 c.pass_lines.ensures.passed c.count_marks.ensures
