use Rattle.page_comparison.proofs.Relations.{is_same_as_itself}
use Rattle.page_comparison.proofs.laws.same_as_itself.Goals as goal

pub returns : goal.returns
returns c near most number printer panel job = is_same_as_itself near most number printer panel job
