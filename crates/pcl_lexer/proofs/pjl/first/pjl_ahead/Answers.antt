use Rattle.std.proofs.Common.{sym, ap, ◌∙◌}
use Rattle.pcl_lexer.specs.PjlLines.FirstView.{first_pjl_view}
use Rattle.pcl_items.specs.PjlLines.View.{pjl_view}
use Rattle.pcl_lexer.specs.Lexing.FirstView.{context_view}
use Rattle.pcl_lexer.specs.Reader.{by_pjl}
use Rattle.pcl_lexer.proofs.PjlLines.Heads.{line_first_view, line_within}
use Rattle.pcl_lexer.proofs.pjl.first.pjl_ahead.Goals as goal

pub returns-in-Open-clause-first : goal.returns-in-Open-clause-first
returns-in-Open-clause-first c = ap by_pjl (sym (ap first_pjl_view c.in-Open.is) ∙ c.at_pjl.ensures.first)

pub returns-in-Begins-clause-first : goal.returns-in-Begins-clause-first
returns-in-Begins-clause-first c =
    line_first_view c.args.bytes.now (pjl_view c.in-Begins.spelled.command) c.in-Begins.len (context_view c.behind_pjl.result)
    (sym c.at_pjl.ensures.first ∙ ap first_pjl_view c.in-Begins.is) c.behind_pjl.ensures

pub returns-in-Begins-clause-within : goal.returns-in-Begins-clause-within
returns-in-Begins-clause-within c =
    line_within c.args.bytes.now (pjl_view c.in-Begins.spelled.command) c.in-Begins.len
    (sym c.at_pjl.ensures.first ∙ ap first_pjl_view c.in-Begins.is)

pub returns-in-Faulty-clause-first : goal.returns-in-Faulty-clause-first
returns-in-Faulty-clause-first c = ap by_pjl (sym (ap first_pjl_view c.in-Faulty.is) ∙ c.at_pjl.ensures.first)
