use Rattle.std.proofs.Common.{◌≡◌, ◌++◌, ℕ, List, refl}
use Rattle.pcl_items.specs.Items.{Placed, at, view}
use Rattle.pcl_lexer.specs.Reading.{Reading, Whole, Stopped, with_item}
use Rattle.renderings.specs.Expected.{item_by_item}
use Rattle.renderings.proofs.Renderings.{item_cut, item_none, same_outcome}
use Rattle.renderings.proofs.item_texts.ItemByItemRenderer.item.Goals as goal

by_rest : (text_of : Placed → List ℕ) (x : Placed) (rest : Reading) →
    (item_by_item text_of).text (with_item x rest) ≡ text_of x ++ (item_by_item text_of).text rest
by_rest text_of x (Whole items place) = refl
by_rest text_of x (Stopped items place cause) = refl

pub returns-in_err-push-clause-rendered : goal.returns-in_err-push-clause-rendered
returns-in_err-push-clause-rendered g c =
    item_none (item_by_item g.T.ItemText.text) (item_by_item g.T.ItemText.text) (at c.args.place (view c.args.item.now))
    (g.W.Outlet.state c.args.outlet.now) c.args.kept.now.items c.push.new.kept.items c.from_residual.result c.from_residual.ensures.0

pub returns-in_err-write_enough-clause-rendered : goal.returns-in_err-write_enough-clause-rendered
returns-in_err-write_enough-clause-rendered g c =
    let x = at c.args.place (view c.args.item.now) in
    item_cut (item_by_item g.T.ItemText.text) (item_by_item g.T.ItemText.text) x (g.W.Outlet.state c.args.outlet.now)
    (g.W.Outlet.state c.write_enough.new.outlet) c.args.kept.now.items c.push.new.kept.items
    c.write_enough.new.kept.items (g.T.ItemText.text x)
    c.from_residual-in_err-write_enough.result c.from_residual-in_err-write_enough.ensures.0
    (record { due = by_rest g.T.ItemText.text x; outcome = same_outcome x; fault = λ rest place cause. refl }) c.in_ok-push.ensures
    c.in_err-write_enough.ensures.text
