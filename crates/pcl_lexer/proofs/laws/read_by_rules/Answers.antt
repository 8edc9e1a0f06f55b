use Rattle.pcl_lexer.proofs.Reading.Stopping as lemmas
use Rattle.pcl_lexer.proofs.laws.read_by_rules.Goals as goal

pub returns : goal.returns
returns c bytes reading = lemmas.read_by_rules bytes reading
