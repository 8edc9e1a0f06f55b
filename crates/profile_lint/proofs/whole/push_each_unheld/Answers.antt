use Rattle.shown_bytes.proofs.Further.{further}
use Rattle.profile_lint.specs.Whole.{unheld}
use Rattle.profile_lint.proofs.Loops.{of_all}
use Rattle.profile_lint.proofs.whole.push_each_unheld.Goals as goal

pub loop-value-preserved : goal.loop-value-preserved
loop-value-preserved g c =
    further (unheld c.args.draft.now c.args.field) c.args.values.now c.loop-value.value-index _
    c.args.faults.now.items c.loop-value.faults.items c.push_unheld.new.faults.items
    c.loop-value-test.true c.loop-value.invariant c.in_ok-push_unheld.ensures

pub returns : goal.returns
returns g c =
    of_all (unheld c.args.draft.now c.args.field) c.args.values.now c.loop-value.value-index
    c.args.faults.now.items c.loop-value.faults.items
    c.loop-value-test.false c.loop-value.invariant
