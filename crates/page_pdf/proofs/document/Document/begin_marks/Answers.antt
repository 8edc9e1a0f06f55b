use Rattle.page_pdf.specs.Document.{content_begun}
use Rattle.page_pdf.proofs.Steps.{opened}
use Rattle.page_pdf.proofs.document.Document.begin_marks.Goals as goal

pub returns : goal.returns
returns g c =
    opened (content_begun c.args.self.now) c.args.text.now.items c.begin_content.new.text.items c.begin_content.new.self
    c.open_page.new.self c.in_ok-begin_content.ensures c.open_page.ensures
