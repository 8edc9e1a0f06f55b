use Rattle.promises.proofs.ReadAgain.{is_read_again}
use Rattle.promises.proofs.laws.plain_text_is_read_again.Goals as goal

pub returns : goal.returns
returns c = λ job reading is. is_read_again job reading is
