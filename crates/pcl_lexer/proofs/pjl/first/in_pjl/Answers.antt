use Rattle.std.proofs.Common.{sym, ◌∙◌}
use Rattle.pcl_lexer.proofs.PjlLines.Heads.{first_at_line, first_otherwise}
use Rattle.pcl_lexer.proofs.pjl.first.in_pjl.Goals as goal

pub returns-then-begins_pjl-clause-first : goal.returns-then-begins_pjl-clause-first
returns-then-begins_pjl-clause-first c whole =
    c.pjl_ahead.ensures.first ∙ sym (first_at_line whole c.args.bytes.now (sym c.begins_pjl.ensures ∙ c.if-begins_pjl.true))

pub returns-else-begins_pjl-clause-first : goal.returns-else-begins_pjl-clause-first
returns-else-begins_pjl-clause-first c whole =
    c.first_between.ensures.first whole ∙ sym (first_otherwise whole c.args.bytes.now (sym c.begins_pjl.ensures ∙ c.if-begins_pjl.false))
