use Rattle.page_env.proofs.AnyPanelFacts.{item_alike, control_alike, transparent_byte_alike, move_alike}
use Rattle.page_env.proofs.laws.items_go_alike.Goals as goal

pub returns : goal.returns
returns c = record {
  items = item_alike;
  controls = control_alike;
  bytes = transparent_byte_alike;
  moves = move_alike;
}
