use Rattle.std.proofs.Common.{◌≡◌, ◌∙◌, ℕ, List, ap, subst}
use Rattle.std.specs.Prelude.{OnOk}
use Rattle.page_pdf.specs.Document.{HasWritten, label_told, next_of}
use Rattle.page_pdf.specs.Objects.{label_body}
use Rattle.page_pdf.proofs.Steps.{built}
use Rattle.page_pdf.proofs.document.Document.tell_label.Goals as goal

pub returns : goal.returns
unfolding label_told
returns g c =
    let old = c.args.self.now in
    let words = c.args.words.now in
    let body_is : c.as_slice.result.now ≡ label_body old.page words =
    built c.new-body.result.items c.push_label_body.new.text.items c.as_slice.result.now (label_body c.page.result words)
    c.new-body.ensures.items c.in_ok-push_label_body.ensures c.as_slice.ensures.value
    ∙ ap (λ (page : ℕ). label_body page words) c.page.ensures in
    subst
    (λ (body : List ℕ). OnOk c.push_next.result
    (HasWritten (next_of body old) c.args.text.now.items c.push_next.new.text.items c.push_next.new.self))
    body_is c.push_next.ensures
