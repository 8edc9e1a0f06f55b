use Rattle.std.proofs.Common.{◌≡◌, map}
use Rattle.sinks.specs.Owned.{event_of}
use Rattle.preflight.specs.Carriers.Lockstep.{action_of}
use Rattle.preflight.specs.declared.check_state.CheckState.TheVariants.{Open}
use Rattle.preflight.proofs.Executing.{SoFar}
use Rattle.preflight.proofs.lockstep.execute_by_others.Given as goal

abbrev pub invariant-loop-index : goal.invariant-loop-index
invariant-loop-index g l = record {
  stands_open : l.state ≡ Open;
  uncounted : l.counts ≡ l.initial.counts;
  so_far : SoFar (action_of l.task) l.place (map event_of l.events) l.index l.first_other l.initial.others l.others;
}
