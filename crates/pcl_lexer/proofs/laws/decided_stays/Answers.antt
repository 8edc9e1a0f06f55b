use Rattle.pcl_lexer.proofs.Lexing.Decided as lemmas
use Rattle.pcl_lexer.proofs.laws.decided_stays.Goals as goal

pub returns : goal.returns
returns c context bytes = lemmas.stays_decided context bytes
