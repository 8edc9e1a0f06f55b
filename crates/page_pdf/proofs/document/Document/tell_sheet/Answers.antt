use Rattle.std.proofs.Common.{◌≡◌, ◌∙◌, ℕ, ◌-◌, List, ap, subst}
use Rattle.std.specs.Prelude.{OnOk}
use Rattle.page_pdf.specs.Document.{HasWritten, next_object, next_of, sheet_told}
use Rattle.page_pdf.specs.Objects.{page_body}
use Rattle.page_pdf.proofs.Steps.{built}
use Rattle.page_pdf.proofs.document.Document.tell_sheet.Goals as goal

pub returns : goal.returns
unfolding sheet_told
returns g c =
    let old = c.args.self.now in
    let paper = c.args.sheet.now.paper in
    let body_is : c.as_slice.result.now ≡ page_body paper (next_object old - 2) =
    built c.new-body.result.items c.push_page_body.new.text.items c.as_slice.result.now (page_body paper (c.next_object.result - 2))
    c.new-body.ensures.items c.in_ok-push_page_body.ensures c.as_slice.ensures.value
    ∙ ap (λ (n : ℕ). page_body paper (n - 2)) c.next_object.ensures.value in
    subst
    (λ (body : List ℕ). OnOk c.push_next.result
    (HasWritten (next_of body old) c.args.text.now.items c.push_next.new.text.items c.push_next.new.self))
    body_is c.push_next.ensures
