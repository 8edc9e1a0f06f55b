use Rattle.std.proofs.Common.{◌∙◌, subst}
use Rattle.std.specs.Prelude.{vec_len}
use Rattle.page_pdf.specs.Document.{HasWritten, Pdf, writes}
use Rattle.page_pdf.specs.Objects.{object_text}
use Rattle.page_pdf.proofs.Steps.{counted}
use Rattle.page_pdf.proofs.document.Document.push_object.Goals as goal

pub returns : goal.returns
returns g c =
    let new = c.push_object_text.new.text in
    let more = object_text c.args.number c.args.body.now in
    subst (λ (begun : Pdf). HasWritten (writes more begun) c.args.text.now.items new.items c.count.new.self)
    c.in_ok-begin_object.ensures
    (counted more c.args.text.now.items new.items c.begin_object.new.self c.count.new.self c.len-old_len.result (vec_len new)
    c.in_ok-push_object_text.ensures (c.len-old_len.ensures ∙ c.args.text.now.ok.0) new.ok.0 c.count.ensures)
