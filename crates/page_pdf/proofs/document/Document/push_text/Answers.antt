use Rattle.std.proofs.Common.{◌∙◌}
use Rattle.std.specs.Prelude.{vec_len}
use Rattle.page_pdf.proofs.Steps.{counted}
use Rattle.page_pdf.proofs.document.Document.push_text.Goals as goal

pub returns : goal.returns
returns g c =
    let new = c.extend_from_slice.new.self in
    counted c.args.more.now c.args.text.now.items new.items c.args.self.now c.count.new.self c.len-old_len.result (vec_len new)
    c.in_ok-extend_from_slice.ensures.items (c.len-old_len.ensures ∙ c.args.text.now.ok.0) new.ok.0 c.count.ensures
