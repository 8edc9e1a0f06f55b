use Rattle.promises.proofs.ReadAgain.{one_plain_text}
use Rattle.promises.proofs.laws.same_items_have_one_plain_text.Goals as goal

pub returns : goal.returns
returns c = λ a b same. one_plain_text a b same
