use Rattle.std.proofs.Common.{sym, ◌∙◌}
use Rattle.printer_models.proofs.SamePages.{same_page}
use Rattle.printer_models.proofs.comparison.is_page.Goals as goal

pub returns : goal.returns
returns c = λ h. same_page c.args.page.now c.args.wanted.now (sym c.eq.ensures ∙ h)
