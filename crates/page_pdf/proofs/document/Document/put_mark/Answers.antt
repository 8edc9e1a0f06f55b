use Rattle.std.proofs.Common.{◌≡◌, ◌∙◌, ◌++◌, Bool, ap, subst}
use Rattle.std.specs.Prelude.{vec_len}
use Rattle.page_env.specs.Mark.{shape_of}
use Rattle.page_pdf.specs.declared.pending.Pending.{Pending}
use Rattle.page_pdf.specs.Document.{HasWritten, Pdf, mark_put, writes}
use Rattle.page_pdf.specs.Marks.{mark_text}
use Rattle.page_pdf.specs.Pending.{is_string}
use Rattle.page_pdf.proofs.Steps.{counted}
use Rattle.page_pdf.proofs.document.Document.put_mark.Goals as goal

pub returns : goal.returns
unfolding mark_put
returns g c =
    let new = c.push_mark.new.text in
    let text = c.args.text.now in
    let mark = shape_of c.args.mark.now in
    let more = mark_text (is_string c.args.self.now.pending) mark in
    let appended : new.items ≡ text.items ++ more =
    c.in_ok-push_mark.ensures
    ∙ (ap (λ (on : Bool). text.items ++ mark_text on mark) c.is_string-is_on.ensures
    ∙ ap (λ (pending : Pending). text.items ++ mark_text (is_string pending) mark) c.pending.ensures) in
    subst (λ (kept : Pdf). HasWritten (writes more kept) text.items new.items c.count.new.self) c.in_ok-keep.ensures
    (counted more text.items new.items c.keep.new.self c.count.new.self c.len-old_len.result (vec_len new)
    appended (c.len-old_len.ensures ∙ text.ok.0) new.ok.0 c.count.ensures)
