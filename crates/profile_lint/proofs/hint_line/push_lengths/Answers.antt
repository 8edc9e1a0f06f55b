use Rattle.profile_lint.specs.HintLines.{length_word}
use Rattle.profile_lint.proofs.Loops.{further_item, of_all}
use Rattle.profile_lint.proofs.hint_line.push_lengths.Goals as goal

pub loop-length-preserved : goal.loop-length-preserved
loop-length-preserved g c =
    further_item length_word c.args.lengths.now c.loop-length.length-index c.length-item.result
    c.args.out.now.items c.loop-length.out.items c.push_length_word.new.out.items
    c.loop-length-test.true c.length-item.is c.loop-length.invariant c.in_ok-push_length_word.ensures

pub returns : goal.returns
returns g c =
    of_all length_word c.args.lengths.now c.loop-length.length-index c.args.out.now.items c.loop-length.out.items
    c.loop-length-test.false c.loop-length.invariant
