use Rattle.shown_bytes.proofs.Further.{further}
use Rattle.profile_lint.specs.Whole.{unpaired}
use Rattle.profile_lint.proofs.Loops.{of_all}
use Rattle.profile_lint.proofs.whole.push_faults_of_size.Goals as goal

pub loop-orientation-preserved : goal.loop-orientation-preserved
loop-orientation-preserved g c =
    further (unpaired c.args.rows.now c.args.size) c.args.orientations.now c.loop-orientation.orientation-index _
    c.args.faults.now.items c.loop-orientation.faults.items c.push_unpaired.new.faults.items
    c.loop-orientation-test.true c.loop-orientation.invariant c.in_ok-push_unpaired.ensures

pub returns : goal.returns
returns g c =
    of_all (unpaired c.args.rows.now c.args.size) c.args.orientations.now c.loop-orientation.orientation-index
    c.args.faults.now.items c.loop-orientation.faults.items
    c.loop-orientation-test.false c.loop-orientation.invariant
