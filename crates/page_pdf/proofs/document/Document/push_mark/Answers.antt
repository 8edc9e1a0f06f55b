use Rattle.page_env.specs.Mark.{shape_of}
use Rattle.page_pdf.specs.Document.{and_then, mark_put, mark_written, page_due, settled_before}
use Rattle.page_pdf.proofs.Steps.{both_written, then_written}
use Rattle.page_pdf.proofs.document.Document.push_mark.Goals as goal

pub returns : goal.returns
unfolding mark_written
returns g c =
    let old = c.args.self.now in
    let sheet = c.args.sheet.now in
    let mark = shape_of c.args.mark.now in
    let text = c.args.text.now.items in
    let mid = c.settle_before.new.text.items in
    let between = c.settle_before.new.self in
    then_written c.put_mark.result (and_then (page_due sheet old) (settled_before sheet.paper mark)) (mark_put sheet.paper mark) text mid
    c.put_mark.new.text.items between c.put_mark.new.self
    (both_written (page_due sheet old) (settled_before sheet.paper mark) text c.begin_if_due.new.text.items mid c.begin_if_due.new.self
    between c.in_ok-begin_if_due.ensures c.in_ok-settle_before.ensures)
    c.put_mark.ensures
