use Rattle.std.proofs.Common.{◌∙◌}
use Rattle.std.specs.Prelude.{vec_len}
use Rattle.page_pdf.specs.Pages.{page_start}
use Rattle.page_pdf.proofs.Steps.{counted}
use Rattle.page_pdf.proofs.document.Document.push_setting.Goals as goal

pub returns : goal.returns
returns g c =
    let new = c.push_page_start.new.text in
    let sheet = c.args.sheet.now in
    counted (page_start sheet.paper sheet.is_proof) c.args.text.now.items new.items c.args.self.now c.count.new.self c.len-old_len.result
    (vec_len new) c.in_ok-push_page_start.ensures (c.len-old_len.ensures ∙ c.args.text.now.ok.0) new.ok.0 c.count.ensures
