use Rattle.std.proofs.Common.{refl, subst, codes, arith}
use Rattle.pcl_items.specs.declared.pjl.PjlCommand as code
use Rattle.pcl_items.specs.PjlLines.Text.{Remark, JobBegins, JobEnds}
use Rattle.pcl_items.specs.PjlLines.View.{pjl_view}
use Rattle.pcl_items.specs.PjlLines.Canon.{IsSpelledPjl}
use Rattle.pcl_lexer.proofs.PjlLines.Canonical.{room}
use Rattle.pcl_spelling.proofs.spelling.pjl_parts.Goals as goal

pub returns-in-Remark-clause-room : goal.returns-in-Remark-clause-room
returns-in-Remark-clause-room c =
    room (codes "@PJL COMMENT") c.in-Remark.text.now (Remark c.in-Remark.text.now)
    (subst (λ (l : code.PjlCommand). IsSpelledPjl (pjl_view l)) c.in-Remark.is c.args.spelled.now.spelled) refl (omega arith)

pub returns-in-JobBegins-clause-room : goal.returns-in-JobBegins-clause-room
returns-in-JobBegins-clause-room c =
    room (codes "@PJL JOB") c.in-JobBegins.text.now (JobBegins c.in-JobBegins.text.now)
    (subst (λ (l : code.PjlCommand). IsSpelledPjl (pjl_view l)) c.in-JobBegins.is c.args.spelled.now.spelled) refl (omega arith)

pub returns-in-JobEnds-clause-room : goal.returns-in-JobEnds-clause-room
returns-in-JobEnds-clause-room c =
    room (codes "@PJL EOJ") c.in-JobEnds.text.now (JobEnds c.in-JobEnds.text.now)
    (subst (λ (l : code.PjlCommand). IsSpelledPjl (pjl_view l)) c.in-JobEnds.is c.args.spelled.now.spelled) refl (omega arith)
