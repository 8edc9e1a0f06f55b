use Rattle.std.proofs.Common.{◌∙◌, Bool, append-nil, if◌then◌else◌, refl, subst, sym}
use Rattle.std.specs.Prelude.{OnOk}
use Rattle.page_pdf.specs.Document.{HasWritten, nothing, page_begun}
use Rattle.page_pdf.proofs.document.Document.begin_if_due.Goals as goal

pub returns-then-is_open : goal.returns-then-is_open
returns-then-is_open g c =
    let old = c.args.self.now in
    let text = c.args.text.now.items in
    subst
    (λ (is_open : Bool). HasWritten (if is_open then nothing old else page_begun c.args.sheet.now old) text text old)
    (sym c.if-is_open.true ∙ c.is_open.ensures)
    (record { text_is = sym (append-nil text); pdf_is = refl })

pub returns : goal.returns
returns g c =
    let old = c.args.self.now in
    subst
    (λ (is_open : Bool).
    OnOk c.begin_page.result
    (HasWritten (if is_open then nothing old else page_begun c.args.sheet.now old) c.args.text.now.items c.begin_page.new.text.items
    c.begin_page.new.self))
    (sym c.if-is_open.false ∙ c.is_open.ensures) c.begin_page.ensures
