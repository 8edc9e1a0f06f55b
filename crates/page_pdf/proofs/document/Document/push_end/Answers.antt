use Rattle.std.proofs.Common.{ℕ, subst}
use Rattle.page_pdf.specs.Document.{HasWritten, document_end, last_written, page_count, table_of}
use Rattle.page_pdf.proofs.Steps.{then_last}
use Rattle.page_pdf.proofs.document.Document.push_end.Goals as goal

pub returns : goal.returns
unfolding document_end
returns g c =
    let old = c.args.self.now in
    let text = c.args.text.now.items in
    let mid = c.push_last.new.text.items in
    let behind = c.push_last.new.self in
    let job = c.args.job.now in
    let printer = c.args.printer.now in
    let sentence = c.args.sentence.now in
    then_last c.push_table.result (last_written (page_count old) job printer sentence old) table_of text mid
    c.push_table.new.text.items behind
    (subst (λ (count : ℕ). HasWritten (last_written count job printer sentence old) text mid behind) c.page_count-count.ensures.value
    c.in_ok-push_last.ensures)
    c.push_table.ensures
