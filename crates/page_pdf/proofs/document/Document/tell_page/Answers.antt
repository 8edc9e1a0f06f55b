use Rattle.page_pdf.specs.Document.{label_told, page_told, sheet_told}
use Rattle.page_pdf.proofs.Steps.{then_written}
use Rattle.page_pdf.proofs.document.Document.tell_page.Goals as goal

pub returns : goal.returns
unfolding page_told
returns g c =
    then_written c.tell_label.result (sheet_told c.args.sheet.now c.args.self.now) (label_told c.args.words.now)
    c.args.text.now.items c.tell_sheet.new.text.items c.tell_label.new.text.items c.tell_sheet.new.self c.tell_label.new.self
    c.in_ok-tell_sheet.ensures c.tell_label.ensures
