use Rattle.std.proofs.Common.{◌∷◌, map, ap, sym, ◌∙◌, subst}
use Rattle.pcl_items.specs.Items.{Entry, Move, pair, simple_view}
use Rattle.page_machine.specs.Event.{Marked}
use Rattle.preflight.specs.Carriers.FleetMode.{others_in}
use Rattle.preflight.specs.Carriers.Lockstep.{AreRunning, Execute, Fleet, GoesAlike}
use Rattle.preflight.specs.Carriers.PairsInStep.{FirstDraws}
use Rattle.preflight.proofs.PairsInStep.{all_draw}
use Rattle.preflight.proofs.lockstep.Lockstep.draw_pair.Goals as goal

pub returns : goal.returns
returns g c =
    let before = c.self.inside in
    let others = before.others.items in
    let first = c.draw_on.new.self in
    let motion = c.in-Move.motion in
    let to = pair c.in-Move.coordinates in
    let running = (subst (λ (f : Fleet). AreRunning f.machines) (sym c.self.view_is) c.requires.running).0 in
    let draws = subst (λ (f : Fleet). FirstDraws c.args.bounds.now f.machines) (sym c.self.view_is) c.requires.draws in
    let moves = c.in-Some.ensures.drawn draws.0 in
    let read = ap simple_view c.in-Move.is in
    record {
      drawn = λ yes.
          subst
          (λ (i : Entry). GoesAlike (Execute i) c.args.self.now.machines
          (first ∷ others_in before.fleet_mode first others) c.args.self.now.counts c.add_marks.new.self)
          (sym read)
          (subst
          (λ (f : Fleet). GoesAlike (Execute (Move motion to)) f.machines
          (first ∷ others_in before.fleet_mode first others) f.counts c.add_marks.new.self)
          c.self.view_is (
            map Marked moves.shapes,
            all_draw c.items_run_on_like_printers.ensures c.args.bounds.now motion to c.in-Some.marks before.fleet_mode before.first first
                others running (c.self.invariant running) c.in-Alone.is draws.1 moves,
            c.add_marks.ensures moves.shapes moves.count,
          ));
      still = λ yes. (moves.still, moves.overlay ∙ draws.1);
      same = λ no. absurd cc;
    }
