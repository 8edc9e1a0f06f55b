use Rattle.shown_bytes.proofs.Further.{further}
use Rattle.profile_lint.specs.Whole.{faults_of_size}
use Rattle.profile_lint.proofs.Loops.{of_all}
use Rattle.profile_lint.proofs.whole.push_each_unpaired.Goals as goal

pub loop-size-preserved : goal.loop-size-preserved
loop-size-preserved g c =
    further (faults_of_size c.args.rows.now c.args.orientations.now) c.args.sizes.now c.loop-size.size-index _
    c.args.faults.now.items c.loop-size.faults.items c.push_faults_of_size.new.faults.items
    c.loop-size-test.true c.loop-size.invariant c.in_ok-push_faults_of_size.ensures

pub returns : goal.returns
returns g c =
    of_all (faults_of_size c.args.rows.now c.args.orientations.now) c.args.sizes.now c.loop-size.size-index
    c.args.faults.now.items c.loop-size.faults.items
    c.loop-size-test.false c.loop-size.invariant
