use Rattle.std.proofs.Common.{◌∙◌}
use Rattle.std.specs.Prelude.{vec_len}
use Rattle.page_pdf.specs.Pages.{failed_text}
use Rattle.page_pdf.proofs.Steps.{counted}
use Rattle.page_pdf.proofs.document.Document.push_why.Goals as goal

pub returns : goal.returns
returns g c =
    let new = c.push_failed.new.text in
    let spot = c.args.spot in
    counted (failed_text c.args.sheet.now.paper spot.x spot.y c.args.sentence.now) c.args.text.now.items new.items c.args.self.now
    c.count.new.self c.len-old_len.result (vec_len new) c.in_ok-push_failed.ensures (c.len-old_len.ensures ∙ c.args.text.now.ok.0) new.ok.0
    c.count.ensures
