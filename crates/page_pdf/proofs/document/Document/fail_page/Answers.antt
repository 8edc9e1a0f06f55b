use Rattle.std.proofs.Common.{List, ℕ, subst, true}
use Rattle.std.specs.Prelude.{OnOk}
use Rattle.page_pdf.specs.Document.{HasWritten, and_then, failure_written, page_closed, page_ready, writes}
use Rattle.page_pdf.specs.Objects.{failing_words}
use Rattle.page_pdf.specs.Pages.{failed_text}
use Rattle.page_pdf.proofs.Steps.{both_written, then_written}
use Rattle.page_pdf.proofs.document.Document.fail_page.Goals as goal

pub returns : goal.returns
unfolding failure_written
returns g c =
    let sheet = c.args.sheet.now in
    let due = page_ready sheet c.args.self.now in
    let why = writes (failed_text sheet.paper c.args.spot.x c.args.spot.y c.args.sentence.now) in
    let text = c.args.text.now.items in
    let mid = c.push_why.new.text.items in
    let new = c.close_page.new.text.items in
    let between = c.push_why.new.self in
    then_written c.close_page.result (and_then due why) (page_closed sheet true failing_words) text mid new between c.close_page.new.self
    (both_written due why text c.make_ready.new.text.items mid c.make_ready.new.self between c.in_ok-make_ready.ensures
    c.in_ok-push_why.ensures)
    (subst (λ (words : List ℕ). OnOk c.close_page.result (HasWritten (page_closed sheet true words between) mid new c.close_page.new.self))
    c.bytes.ensures c.close_page.ensures)
