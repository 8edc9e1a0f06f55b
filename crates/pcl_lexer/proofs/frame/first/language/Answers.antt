use Rattle.std.proofs.Common.{sym, ◌∙◌}
use Rattle.pcl_lexer.specs.Lexing.FirstView.{first_view}
use Rattle.pcl_lexer.proofs.Frames.Languages.{entered, stays}
use Rattle.pcl_lexer.proofs.frame.first.language.Goals as goal

pub returns-then-enters_frame-clause-first : goal.returns-then-enters_frame-clause-first
returns-then-enters_frame-clause-first c = λ all.
    entered c.args.bytes.now (first_view all c.ungrouped-first.result) (c.ungrouped-first.ensures.first all)
    (sym (c.enters_frame.ensures all) ∙ c.if-enters_frame.true)

pub returns-else-enters_frame-clause-first : goal.returns-else-enters_frame-clause-first
returns-else-enters_frame-clause-first c = λ all.
    stays c.args.bytes.now (first_view all c.ungrouped-first.result) (c.ungrouped-first.ensures.first all)
    (sym (c.enters_frame.ensures all) ∙ c.if-enters_frame.false)
