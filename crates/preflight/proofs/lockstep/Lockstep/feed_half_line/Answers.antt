use Rattle.std.proofs.Common.{◌∷◌, [], refl, sym, subst}
use Rattle.std.specs.Prelude.{IfSome}
use Rattle.pcl_items.specs.Items.{HalfLineFeed}
use Rattle.preflight.specs.Carriers.FleetMode.{others_in}
use Rattle.preflight.specs.Carriers.FormsInStep.{FirstForms, FirstKeeps}
use Rattle.preflight.specs.Carriers.Lockstep.{AreRunning, Execute, Fleet, GoesAlike}
use Rattle.page_machine.specs.Forms.{RunsFeed}
use Rattle.preflight.proofs.FormsInStep.{all_feed}
use Rattle.preflight.proofs.lockstep.Lockstep.feed_half_line.Goals as goal

pub returns : goal.returns
returns g c =
    let before = c.self.inside in
    let others = before.others.items in
    let first = c.feed_half_line_on.new.self in
    let running = (subst (λ (f : Fleet). AreRunning f.machines) (sym c.self.view_is) c.requires.running).0 in
    let known = subst (λ o. IfSome o (λ bounds. FirstForms bounds c.args.self.now.machines)) c.in-Some.is c.requires.known in
    let forms = subst (λ (f : Fleet). FirstForms c.in-Some.bounds f.machines) (sym c.self.view_is) known in
    let runs : RunsFeed before.first first = c.feed_half_line_on.ensures.fed c.if-not-feed_half_line_on.false forms.0 in
    record {
      fed = λ yes.
          subst
          (λ (f : Fleet). GoesAlike (Execute HalfLineFeed) f.machines (first ∷ others_in before.fleet_mode first others) f.counts
          before.counts)
          c.self.view_is (
            [],
            all_feed c.items_run_on_like_printers.ensures before.fleet_mode before.first first others running
                (c.self.invariant running) c.in-Alone.is forms.1 runs,
            refl,
          );
      kept = λ yes.
          subst (λ (f : Fleet). FirstKeeps f.machines (first ∷ others_in before.fleet_mode first others)) c.self.view_is
          (runs.is, runs.rest);
      same = λ no. absurd cc;
    }
