use Rattle.page_env.proofs.BareFacts.{item_bare, control_bare, transparent_bare, move_bare}
use Rattle.page_env.proofs.laws.items_stay_bare.Goals as goal

pub returns : goal.returns
returns c = record { items = item_bare; controls = control_bare; bytes = transparent_bare; moves = move_bare }
