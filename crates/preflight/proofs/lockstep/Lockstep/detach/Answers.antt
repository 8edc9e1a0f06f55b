use Rattle.std.proofs.Common.{List, reverse, subst, sym}
use Rattle.page_machine.specs.Detached.{DetachedState, detached}
use Rattle.preflight.specs.Carriers.Detached.{AreLeftOf}
use Rattle.preflight.specs.Carriers.FleetMode.{IsFormed, fleet_of}
use Rattle.preflight.specs.Carriers.Lockstep.{AreRunning, Fleet}
use Rattle.preflight.proofs.Attaching.{left_of}
use Rattle.preflight.proofs.lockstep.Lockstep.detach.Goals as goal

pub returns : goal.returns
returns g c =
    let fleet_mode = c.self.inside.fleet_mode in
    let first = c.self.inside.first in
    let others = c.self.inside.others.items in
    let counts = c.self.inside.counts in
    let whole : Fleet = fleet_of fleet_mode first others counts in
    let running : AreRunning whole.machines = subst (λ (fleet : Fleet). AreRunning fleet.machines) (sym c.self.view_is) c.requires in
    let formed : IsFormed fleet_mode first others = c.self.invariant running.0 in
    subst (λ (fleet : Fleet). AreLeftOf fleet (record {
      fleet_mode = fleet_mode;
      first = c.detach-first.result;
      others = reverse c.in_ok-others.others.items;
      counts = counts;
    })) c.self.view_is
    (subst (λ (one : DetachedState). AreLeftOf whole (record {
      fleet_mode = fleet_mode;
      first = one;
      others = reverse c.in_ok-others.others.items;
      counts = counts;
    })) (sym c.detach-first.ensures)
    (subst (λ (each : List DetachedState). AreLeftOf whole (record {
      fleet_mode = fleet_mode;
      first = detached first;
      others = each;
      counts = counts;
    })) (sym c.in_ok-others.ensures) (left_of fleet_mode first others counts formed)))
