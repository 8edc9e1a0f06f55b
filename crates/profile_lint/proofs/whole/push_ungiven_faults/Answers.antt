use Rattle.shown_bytes.proofs.Further.{further}
use Rattle.profile_lint.specs.Whole.{ungiven_fault}
use Rattle.profile_lint.proofs.Loops.{of_all}
use Rattle.profile_lint.proofs.whole.push_ungiven_faults.Goals as goal

pub loop-key-preserved : goal.loop-key-preserved
loop-key-preserved g c =
    further (ungiven_fault c.args.draft.now c.args.on_lines.now) c.args.keys.now c.loop-key.key-index _
    c.args.faults.now.items c.loop-key.faults.items c.push_ungiven_fault.new.faults.items
    c.loop-key-test.true c.loop-key.invariant c.in_ok-push_ungiven_fault.ensures

pub returns : goal.returns
returns g c =
    of_all (ungiven_fault c.args.draft.now c.args.on_lines.now) c.args.keys.now c.loop-key.key-index
    c.args.faults.now.items c.loop-key.faults.items
    c.loop-key-test.false c.loop-key.invariant
