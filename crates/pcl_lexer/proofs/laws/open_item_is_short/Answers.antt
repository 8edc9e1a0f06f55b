use Rattle.pcl_lexer.proofs.Lexing.Bounds as lemmas
use Rattle.pcl_lexer.proofs.laws.open_item_is_short.Goals as goal

pub returns : goal.returns
returns c context bytes = lemmas.open_is_short context bytes
