use Rattle.pcl_items.specs.Items.{view}
use Rattle.preflight.proofs.FleetModes.{item_as_one}
use Rattle.preflight.proofs.alike.goes_alike.Goals as goal

pub returns-then-asks_nothing : goal.returns-then-asks_nothing
returns-then-asks_nothing g c = λ _.
    item_as_one c.args.first.now (view c.args.item.now) c.args.others.now
    (record {
      no_reset = c.asks_nothing.ensures.no_reset c.if-asks_nothing.true;
      asks = c.asks_nothing.ensures.asks c.if-asks_nothing.true;
    })
    (c.asks_nothing.ensures.no_overlay c.if-asks_nothing.true)
