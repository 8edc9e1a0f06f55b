use Rattle.std.proofs.Common.{◌≡◌, true, sym, subst, ◌∙◌}
use Rattle.pcl_items.specs.Items.{view}
use Rattle.page_env.specs.Likeness.{asks_alike}
use Rattle.preflight.proofs.alike.asks_as.Goals as goal

pub returns : goal.returns
returns g c = λ yes. record {
  asks =
      subst (λ q. asks_alike c.args.first.now.printer q (view c.args.item.now) ≡ true) c.profile-2.ensures
      (subst (λ p. asks_alike p c.profile-2.result.now (view c.args.item.now) ≡ true) c.profile.ensures
      (sym c.asks_alike.ensures ∙ c.if-not-asks_alike.false));
  leaves = c.leaves_store.ensures yes;
}
