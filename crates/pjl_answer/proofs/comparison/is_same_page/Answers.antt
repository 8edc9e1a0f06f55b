use Rattle.std.proofs.Common.{sym, ◌∙◌}
use Rattle.printer_models.proofs.SamePages.{same_page}
use Rattle.pjl_answer.proofs.comparison.is_same_page.Goals as goal

pub returns : goal.returns
returns c = λ h. same_page c.args.a.now c.args.b.now (sym c.eq.ensures ∙ h)
