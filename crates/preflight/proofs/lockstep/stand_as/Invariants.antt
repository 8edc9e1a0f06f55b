use Rattle.preflight.specs.Carriers.FleetMode.{StandsAs}
use Rattle.preflight.proofs.TextInStep.{ChangedUpTo}
use Rattle.preflight.proofs.lockstep.stand_as.Given as goal

abbrev pub invariant-loop-machine : goal.invariant-loop-machine
invariant-loop-machine g l = ChangedUpTo (StandsAs l.first) l.machine-index l.initial.machines l.machines
