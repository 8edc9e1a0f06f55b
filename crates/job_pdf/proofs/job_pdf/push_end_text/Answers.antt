use Rattle.std.proofs.Common.{◌≡◌, ◌++◌, ℕ, List, subst}
use Rattle.std.specs.Prelude.{OnOk}
use Rattle.page_pdf.specs.Document.{document_end}
use Rattle.job_pdf.proofs.job_pdf.push_end_text.Goals as goal

pub returns : goal.returns
returns g c =
    subst
    (λ (printer : List ℕ). OnOk c.push_end.result
    (c.push_end.new.text.items
    ≡ c.args.text.now.items ++ document_end c.args.wanted.now.job.now printer c.args.sentence.now c.args.document.now))
    c.first_name.ensures c.push_end.ensures
