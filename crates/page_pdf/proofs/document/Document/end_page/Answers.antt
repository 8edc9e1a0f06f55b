use Rattle.std.proofs.Common.{◌≡◌, List, ℕ, false, subst}
use Rattle.std.specs.Prelude.{OnOk}
use Rattle.page_pdf.specs.Document.{HasWritten, end_written, page_closed, page_ready}
use Rattle.page_pdf.specs.Objects.{end_words}
use Rattle.page_pdf.proofs.Steps.{built, then_written}
use Rattle.page_pdf.proofs.document.Document.end_page.Goals as goal

pub returns : goal.returns
unfolding end_written
returns g c =
    let sheet = c.args.sheet.now in
    let mid = c.make_ready.new.text.items in
    let new = c.close_page.new.text.items in
    let between = c.make_ready.new.self in
    let words_are : c.as_slice.result.now ≡ end_words c.args.end =
    built c.new-words.result.items c.push_end_words.new.text.items c.as_slice.result.now (end_words c.args.end)
    c.new-words.ensures.items c.in_ok-push_end_words.ensures c.as_slice.ensures.value in
    then_written c.close_page.result (page_ready sheet c.args.self.now) (page_closed sheet false (end_words c.args.end))
    c.args.text.now.items
    mid new between c.close_page.new.self c.in_ok-make_ready.ensures
    (subst (λ (words : List ℕ). OnOk c.close_page.result (HasWritten (page_closed sheet false words between) mid new c.close_page.new.self))
    words_are c.close_page.ensures)
