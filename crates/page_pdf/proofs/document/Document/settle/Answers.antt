use Rattle.std.proofs.Common.{◌∙◌}
use Rattle.std.specs.Prelude.{vec_len}
use Rattle.page_pdf.specs.Document.{Pdf, settled, without_pending, writes}
use Rattle.page_pdf.specs.Pending.{pending_text}
use Rattle.page_pdf.proofs.Settling.{pending_appended}
use Rattle.page_pdf.proofs.Steps.{changed, counted}
use Rattle.page_pdf.proofs.document.Document.settle.Goals as goal

pub returns : goal.returns
unfolding settled
returns g c =
    let old = c.args.self.now in
    let text = c.args.text.now in
    let new = c.push_pending.new.text in
    let more = pending_text old.pending old.pixels in
    changed (λ (pdf : Pdf). without_pending pdf) (writes more old) text.items new.items c.count.new.self c.drop_pending.new.self
    (counted more text.items new.items old c.count.new.self c.len-old_len.result (vec_len new)
    (pending_appended old text.items new.items c.pixels.result.now c.pending.result c.in_ok-push_pending.ensures c.pending.ensures
    c.pixels.ensures)
    (c.len-old_len.ensures ∙ text.ok.0) new.ok.0 c.count.ensures)
    c.drop_pending.ensures
