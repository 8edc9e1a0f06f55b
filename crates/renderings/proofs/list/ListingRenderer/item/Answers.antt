use Rattle.pcl_items.specs.Items.{at, view}
use Rattle.line_words.specs.ItemLines.{item_line}
use Rattle.renderings.specs.Expected.{list_rendering}
use Rattle.renderings.proofs.Renderings.{item_cut, item_none, list_goes}
use Rattle.renderings.proofs.list.ListingRenderer.item.Goals as goal

pub returns-in_err-push_item-clause-rendered : goal.returns-in_err-push_item-clause-rendered
returns-in_err-push_item-clause-rendered g c =
    item_none list_rendering list_rendering (at c.args.place (view c.args.item.now))
    (g.W.Outlet.state c.args.outlet.now) c.args.kept.now.items c.push_item.new.text.items c.from_residual.result c.from_residual.ensures.0

pub returns-in_err-write_enough-clause-rendered : goal.returns-in_err-write_enough-clause-rendered
returns-in_err-write_enough-clause-rendered g c =
    let x = at c.args.place (view c.args.item.now) in
    item_cut list_rendering list_rendering x (g.W.Outlet.state c.args.outlet.now) (g.W.Outlet.state c.write_enough.new.outlet)
    c.args.kept.now.items c.push_item.new.text.items c.write_enough.new.kept.items (item_line x)
    c.from_residual-in_err-write_enough.result c.from_residual-in_err-write_enough.ensures.0
    (list_goes x) c.in_ok-push_item.ensures c.in_err-write_enough.ensures.text
