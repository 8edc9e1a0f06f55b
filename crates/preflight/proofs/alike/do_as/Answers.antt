use Rattle.std.proofs.Common.{sym, ◌∙◌, inl}
use Rattle.pcl_items.specs.Items.{view}
use Rattle.preflight.proofs.FleetModes.{none_is, plain_as_one}
use Rattle.preflight.proofs.alike.do_as.Goals as goal

pub returns-in-Some : goal.returns-in-Some
returns-in-Some g c = λ yes.
    plain_as_one c.plain_macros_run_alike.ensures.alike c.plain_macros_run_alike.ensures.leaves c.args.first.now (view c.args.item.now)
    c.in-Some.body c.in-Some.ensures c.args.others.now (c.share_macro.ensures yes)

pub returns : goal.returns
returns g c = λ yes.
    inl (record {
      no_overlay = none_is c.args.first.now.page.env.job.overlay (sym c.has_overlay.ensures ∙ c.if-has_overlay.false);
      leaves = c.leaves_store.ensures c.if-not-leaves_store.false;
      alike = c.ask_alike.ensures yes;
    })
