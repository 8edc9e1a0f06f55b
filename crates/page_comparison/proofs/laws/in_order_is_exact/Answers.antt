use Rattle.page_comparison.proofs.Relations.{is_exact}
use Rattle.page_comparison.proofs.laws.in_order_is_exact.Goals as goal

pub returns : goal.returns
returns c most number printer panel before after = is_exact most number printer panel before after
