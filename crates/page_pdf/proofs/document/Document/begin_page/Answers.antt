use Rattle.page_pdf.specs.Document.{marks_begun, page_begun, writes}
use Rattle.page_pdf.specs.Pages.{page_start}
use Rattle.page_pdf.proofs.Steps.{then_written}
use Rattle.page_pdf.proofs.document.Document.begin_page.Goals as goal

pub returns : goal.returns
unfolding page_begun
returns g c =
    let sheet = c.args.sheet.now in
    then_written c.push_setting.result (marks_begun c.args.self.now) (writes (page_start sheet.paper sheet.is_proof))
    c.args.text.now.items c.begin_marks.new.text.items c.push_setting.new.text.items c.begin_marks.new.self c.push_setting.new.self
    c.in_ok-begin_marks.ensures c.push_setting.ensures
