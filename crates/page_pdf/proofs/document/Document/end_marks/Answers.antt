use Rattle.std.proofs.Common.{◌≡◌, ◌∙◌, ℕ, List, ap, subst}
use Rattle.std.specs.Prelude.{OnOk, decimal}
use Rattle.page_pdf.specs.Document.{HasWritten, marks_ended, marks_length, next_of, writes}
use Rattle.page_pdf.specs.Objects.{content_end}
use Rattle.page_pdf.proofs.Steps.{built, then_written}
use Rattle.page_pdf.proofs.document.Document.end_marks.Goals as goal

pub returns : goal.returns
unfolding marks_ended
returns g c =
    let old = c.args.self.now in
    let text = c.args.text.now.items in
    let mid = c.push_text.new.text.items in
    let new = c.push_next.new.text.items in
    let between = c.push_text.new.self in
    let body_is : c.as_slice.result.now ≡ decimal (marks_length old) =
    built c.new-body.result.items c.push_number.new.text.items c.as_slice.result.now (decimal c.marks_length.result)
    c.new-body.ensures.items c.in_ok-push_number.ensures c.as_slice.ensures.value
    ∙ ap decimal c.marks_length.ensures in
    then_written c.push_next.result (writes content_end old) (next_of (decimal (marks_length old))) text mid new between
    c.push_next.new.self
    (subst (λ (more : List ℕ). HasWritten (writes more old) text mid between) c.bytes.ensures c.in_ok-push_text.ensures)
    (subst (λ (body : List ℕ). OnOk c.push_next.result (HasWritten (next_of body between) mid new c.push_next.new.self)) body_is
    c.push_next.ensures)
