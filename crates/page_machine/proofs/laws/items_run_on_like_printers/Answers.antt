use Rattle.page_machine.proofs.LikePrinters.{runs_on_both}
use Rattle.page_machine.proofs.laws.items_run_on_like_printers.Goals as goal

pub returns : goal.returns
returns c =
    runs_on_both c.items_go_on_like_printers.ensures.items c.items_go_on_like_printers.ensures.bytes
    c.items_go_on_like_printers.ensures.moves
