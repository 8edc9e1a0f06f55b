use Rattle.promises.proofs.Comparisons.{says_same_for_all}
use Rattle.promises.proofs.laws.same_for_all.Goals as goal

pub returns : goal.returns
returns c fleet before after = says_same_for_all c.one_reading.ensures fleet before after
