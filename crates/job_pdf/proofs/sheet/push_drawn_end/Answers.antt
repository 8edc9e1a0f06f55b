use Rattle.std.proofs.Common.{◌∙◌, ap}
use Rattle.page_pdf.specs.Document.{Pdf, page_behind}
use Rattle.job_pdf.proofs.sheet.push_drawn_end.Goals as goal

pub returns : goal.returns
returns g c =
    let written = c.in_ok-push_end_if_drawn.ensures in
    record {
      text_is = written.text_is;
      pdf_is = c.pass_page.ensures ∙ ap (λ (pdf : Pdf). page_behind pdf) written.pdf_is;
    }
