use Rattle.comparison.proofs.Sameness.{says_same}
use Rattle.comparison.proofs.laws.same_prints_same.Goals as goal

pub returns : goal.returns
returns c number printer panel before after = says_same c.one_reading.ensures number printer panel before after
