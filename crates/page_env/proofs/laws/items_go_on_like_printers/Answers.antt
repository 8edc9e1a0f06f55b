use Rattle.page_env.proofs.LikePrinters.{item_goes, byte_goes, move_goes}
use Rattle.page_env.proofs.laws.items_go_on_like_printers.Goals as goal

pub returns : goal.returns
returns c = record { items = item_goes; bytes = byte_goes; moves = move_goes }
