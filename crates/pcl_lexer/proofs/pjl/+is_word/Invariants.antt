use Rattle.std.proofs.Common.{length}
use Rattle.pcl_lexer.proofs.pjl.+is_word.Given as goal

abbrev pub decreases-is_word : goal.decreases-is_word
decreases-is_word l = length l.text.now
