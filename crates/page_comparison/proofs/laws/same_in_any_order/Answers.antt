use Rattle.page_comparison.proofs.Relations.{needs_no_order}
use Rattle.page_comparison.proofs.laws.same_in_any_order.Goals as goal

pub returns : goal.returns
returns c within most number printer panel before after = needs_no_order most number printer panel before after within
