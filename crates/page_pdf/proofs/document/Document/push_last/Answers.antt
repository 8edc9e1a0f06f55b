use Rattle.page_pdf.specs.Document.{last_written, object}
use Rattle.page_pdf.specs.Objects.{catalog_body, information_body, pages_body, verdict_body}
use Rattle.page_pdf.proofs.Steps.{four_written}
use Rattle.page_pdf.proofs.document.Document.push_last.Goals as goal

pub returns : goal.returns
unfolding last_written
returns g c =
    four_written c.push_verdict.result (object 1 (catalog_body c.args.count)) (object 2 (pages_body c.args.count))
    (object 3 (information_body c.args.job.now c.args.printer.now)) (object 4 (verdict_body c.args.sentence.now))
    c.args.text.now.items c.push_catalog.new.text.items c.push_pages.new.text.items c.push_information.new.text.items
    c.push_verdict.new.text.items c.args.self.now c.push_catalog.new.self c.push_pages.new.self c.push_information.new.self
    c.push_verdict.new.self c.in_ok-push_catalog.ensures c.in_ok-push_pages.ensures c.in_ok-push_information.ensures
    c.push_verdict.ensures
