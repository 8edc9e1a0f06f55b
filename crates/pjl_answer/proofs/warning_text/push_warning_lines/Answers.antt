use Rattle.shown_bytes.proofs.Further.{further}
use Rattle.pjl_answer.specs.Warning.{warning_line}
use Rattle.pjl_answer.proofs.warning_text.push_warning_lines.Goals as goal

pub loop-warning-preserved : goal.loop-warning-preserved
loop-warning-preserved g c =
    further (warning_line c.args.start.now c.args.answer.now) c.args.all.now c.loop-warning.warning-index _
    c.args.text.now.items c.loop-warning.text.items c.push_warning_line.new.text.items
    c.loop-warning-test.true c.loop-warning.invariant c.in_ok-push_warning_line.ensures
