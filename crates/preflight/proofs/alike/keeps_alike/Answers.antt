use Rattle.std.proofs.Common.{sym, ◌∙◌, inl, inr}
use Rattle.preflight.proofs.FleetModes.{none_is, not_true}
use Rattle.preflight.proofs.alike.keeps_alike.Goals as goal

pub returns-then-keeps_stores : goal.returns-then-keeps_stores
returns-then-keeps_stores g c = λ _.
    inl (record {
      controls = c.keeps_stores.ensures.controls c.if-keeps_stores.true;
      runs_none = c.keeps_stores.ensures.runs_none c.if-keeps_stores.true;
    })

pub returns : goal.returns
returns g c = λ yes.
    inr (
      sym c.is_reset.ensures ∙ c.if-not-is_reset.false,
      none_is c.args.first.now.page.env.job.overlay (sym c.has_overlay.ensures ∙ not_true c.has_overlay.result yes),
    )
