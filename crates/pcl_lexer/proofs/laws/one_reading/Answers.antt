use Rattle.pcl_lexer.proofs.Reading.Readings as lemmas
use Rattle.pcl_lexer.proofs.laws.one_reading.Goals as goal

pub returns : goal.returns
returns c bytes = lemmas.one_reading bytes
