use Rattle.page_machine.proofs.AnyPanel.{runs_alike, watched_alike}
use Rattle.page_machine.proofs.laws.watched_runs_are_alike.Goals as goal

pub returns : goal.returns
returns c = watched_alike (runs_alike c.items_go_alike.ensures.items c.items_go_alike.ensures.bytes c.items_go_alike.ensures.moves)
