use Rattle.pcl_spelling.proofs.Spellings.Canons as lemmas
use Rattle.pcl_spelling.proofs.Spellings.ReadAgain.{one_unit_admitted}
use Rattle.promises.proofs.laws.admitted_by_rules.Goals as goal

pub returns : goal.returns
returns c mode mode2 item h = (λ e. (lemmas.has_canon mode mode2 item h e).unit, one_unit_admitted mode mode2 item)
