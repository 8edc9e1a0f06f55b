use Rattle.std.proofs.Common.{◌≡◌, ◌++◌, map, take}
use Rattle.std.specs.List.{flat_map}
use Rattle.pcl_items.specs.Spellings.Canon.{canon}
use Rattle.pcl_items.specs.Items.{simple_view}
use Rattle.renderings.proofs.pin.push_items.Given as goal

abbrev pub invariant-loop-item : goal.invariant-loop-item
invariant-loop-item g l = l.text.items ≡ l.initial.text.items ++ flat_map canon (map simple_view (take l.item-index l.items))
