use Rattle.std.proofs.Common.{◌∙◌, ℕ, subst}
use Rattle.std.specs.Prelude.{vec_len}
use Rattle.page_pdf.specs.Document.{HasWritten, Pdf, begins_object, writes}
use Rattle.page_pdf.specs.Objects.{content_start}
use Rattle.page_pdf.proofs.Steps.{counted}
use Rattle.page_pdf.proofs.document.Document.begin_content.Goals as goal

pub returns : goal.returns
returns g c =
    let new = c.push_content_start.new.text in
    let old = c.args.text.now.items in
    let more = content_start c.next_object-number.result in
    subst
    (λ (number : ℕ). HasWritten (writes (content_start number) (begins_object c.args.self.now)) old new.items c.count.new.self)
    c.next_object-number.ensures.value
    (subst (λ (begun : Pdf). HasWritten (writes more begun) old new.items c.count.new.self) c.in_ok-begin_object.ensures
    (counted more old new.items c.begin_object.new.self c.count.new.self c.len-old_len.result (vec_len new)
    c.in_ok-push_content_start.ensures (c.len-old_len.ensures ∙ c.args.text.now.ok.0) new.ok.0 c.count.ensures))
