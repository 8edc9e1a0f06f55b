use Rattle.profile_lint.specs.HintLines.{hint_line}
use Rattle.profile_lint.proofs.Loops.{further_item, of_all}
use Rattle.profile_lint.proofs.lint.push_hints.Goals as goal

pub loop-hint-preserved : goal.loop-hint-preserved
loop-hint-preserved g c =
    further_item (hint_line c.args.word.now) c.args.found.now c.loop-hint.hint-index c.hint-item.result
    c.args.lines.now.items c.loop-hint.lines.items c.push_hint.new.out.items
    c.loop-hint-test.true c.hint-item.is c.loop-hint.invariant c.in_ok-push_hint.ensures

pub returns : goal.returns
returns g c =
    of_all (hint_line c.args.word.now) c.args.found.now c.loop-hint.hint-index c.args.lines.now.items c.loop-hint.lines.items
    c.loop-hint-test.false c.loop-hint.invariant
