use Rattle.std.proofs.Common.{◌∙◌, sym}
use Rattle.page_pdf.specs.Titles.{title_codes}
use Rattle.page_pdf.proofs.titles.push_title.Goals as goal

pub returns-then-has_wide : goal.returns-then-has_wide
unfolding title_codes
returns-then-has_wide g c = rw (sym c.has_wide.ensures ∙ c.if-has_wide.true) c.push_wide.ensures

pub returns : goal.returns
unfolding title_codes
returns g c = rw (sym c.has_wide.ensures ∙ c.if-has_wide.false) c.push_letters.ensures
