use Rattle.std.proofs.Common.{drop}
use Rattle.pcl_lexer.specs.Lexing.FirstView.{context_view}
use Rattle.pcl_lexer.specs.Reading.{left}
use Rattle.pcl_lexer.proofs.Frames.Skipping.{PassesTo}
use Rattle.pcl_lexer.proofs.lexer.ahead.next_ahead.Given as goal

abbrev pub invariant-loop-len : goal.invariant-loop-len
invariant-loop-len l = PassesTo l.fn.whole (context_view l.fn.context) l.fn.start l.fn.window (context_view l.before) l.at

abbrev pub decreases-loop-len : goal.decreases-loop-len
decreases-loop-len l = left (context_view l.before) (drop l.at l.fn.window)
