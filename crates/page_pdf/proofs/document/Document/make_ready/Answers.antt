use Rattle.page_pdf.specs.Document.{page_due, page_ready, settled}
use Rattle.page_pdf.proofs.Steps.{then_written}
use Rattle.page_pdf.proofs.document.Document.make_ready.Goals as goal

pub returns : goal.returns
unfolding page_ready
returns g c =
    then_written c.settle.result (page_due c.args.sheet.now c.args.self.now) settled c.args.text.now.items
    c.begin_if_due.new.text.items c.settle.new.text.items c.begin_if_due.new.self c.settle.new.self c.in_ok-begin_if_due.ensures
    c.settle.ensures
