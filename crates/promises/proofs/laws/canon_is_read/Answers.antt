use Rattle.pcl_spelling.proofs.Spellings.Canons as lemmas
use Rattle.promises.proofs.laws.canon_is_read.Goals as goal

pub returns : goal.returns
returns c mode mode2 item h e = lemmas.has_canon mode mode2 item h e
