use Rattle.std.proofs.Common.{◌∙◌, ℕ, subst}
use Rattle.std.specs.Prelude.{vec_len}
use Rattle.page_pdf.specs.Document.{HasWritten, writes}
use Rattle.page_pdf.specs.Pages.{page_end}
use Rattle.page_pdf.proofs.Steps.{counted}
use Rattle.page_pdf.proofs.document.Document.push_end_of_marks.Goals as goal

pub returns : goal.returns
returns g c =
    let new = c.push_page_end.new.text in
    let old = c.args.text.now.items in
    let sheet = c.args.sheet.now in
    let end = λ (page : ℕ). page_end sheet.paper page sheet.is_proof c.args.is_told in
    subst (λ (page : ℕ). HasWritten (writes (end page) c.args.self.now) old new.items c.count.new.self) c.page.ensures
    (counted (end c.page.result) old new.items c.args.self.now c.count.new.self c.len-old_len.result (vec_len new)
    c.in_ok-push_page_end.ensures (c.len-old_len.ensures ∙ c.args.text.now.ok.0) new.ok.0 c.count.ensures)
