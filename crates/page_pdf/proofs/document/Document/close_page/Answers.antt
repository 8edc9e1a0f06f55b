use Rattle.page_pdf.specs.Document.{and_then, marks_ended, page_closed, page_told, writes}
use Rattle.page_pdf.specs.Pages.{page_end}
use Rattle.page_pdf.proofs.Steps.{both_written, then_written}
use Rattle.page_pdf.proofs.document.Document.close_page.Goals as goal

pub returns : goal.returns
unfolding page_closed
returns g c =
    let old = c.args.self.now in
    let sheet = c.args.sheet.now in
    let end = writes (page_end sheet.paper old.page sheet.is_proof c.args.is_told) old in
    let text = c.args.text.now.items in
    let mid = c.end_marks.new.text.items in
    then_written c.tell_page.result (and_then end marks_ended) (page_told sheet c.args.words.now) text mid c.tell_page.new.text.items
    c.end_marks.new.self c.tell_page.new.self
    (both_written end marks_ended text c.push_end_of_marks.new.text.items mid c.push_end_of_marks.new.self c.end_marks.new.self
    c.in_ok-push_end_of_marks.ensures c.in_ok-end_marks.ensures)
    c.tell_page.ensures
