use Rattle.page_env.proofs.PinnedFacts.{item_goes, control_goes, transparent_goes, move_goes}
use Rattle.page_env.proofs.laws.items_go_pinned.Goals as goal

pub returns : goal.returns
returns c = record { items = item_goes; controls = control_goes; bytes = transparent_goes; moves = move_goes }
