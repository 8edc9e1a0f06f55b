use Rattle.shown_bytes.proofs.Further.{further}
use Rattle.profile_lint.specs.FaultLines.{fault_line}
use Rattle.profile_lint.proofs.Loops.{of_all}
use Rattle.profile_lint.proofs.lint.push_faults.Goals as goal

pub loop-fault-preserved : goal.loop-fault-preserved
loop-fault-preserved g c =
    further (fault_line c.args.word.now c.args.text.now) c.args.found.now c.loop-fault.fault-index _
    c.args.lines.now.items c.loop-fault.lines.items c.push_fault.new.out.items
    c.loop-fault-test.true c.loop-fault.invariant c.in_ok-push_fault.ensures

pub returns : goal.returns
returns g c =
    of_all (fault_line c.args.word.now c.args.text.now) c.args.found.now c.loop-fault.fault-index
    c.args.lines.now.items c.loop-fault.lines.items
    c.loop-fault-test.false c.loop-fault.invariant
