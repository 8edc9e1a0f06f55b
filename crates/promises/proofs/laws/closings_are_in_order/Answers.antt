use Rattle.promises.proofs.ClosingsFacts.{closes_in_order, item_fixes}
use Rattle.promises.proofs.laws.closings_are_in_order.Goals as goal

pub returns : goal.returns
returns c = record { closings = closes_in_order; papers = item_fixes }
