use Rattle.shown_bytes.proofs.Further.{further}
use Rattle.profile_lint.specs.HintLines.{more_range_words}
use Rattle.profile_lint.proofs.Loops.{of_all}
use Rattle.profile_lint.proofs.hint_line.push_more_ranges.Goals as goal

pub loop-range-preserved : goal.loop-range-preserved
loop-range-preserved g c =
    further more_range_words c.args.ranges.now c.loop-range.range-index _
    c.args.out.now.items c.loop-range.out.items c.push_more_range.new.out.items
    c.loop-range-test.true c.loop-range.invariant c.in_ok-push_more_range.ensures

pub returns : goal.returns
returns g c =
    of_all more_range_words c.args.ranges.now c.loop-range.range-index c.args.out.now.items c.loop-range.out.items
    c.loop-range-test.false c.loop-range.invariant
