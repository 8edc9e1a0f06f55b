use Rattle.std.proofs.Common.{◌≡◌, ◌++◌, Bool, append-nil, refl, subst, sym}
use Rattle.std.specs.Prelude.{OnOk}
use Rattle.std.proofs.lemmas.Result.{on_ok_weaker}
use Rattle.page_pdf.specs.Document.{HasWritten, start_written}
use Rattle.job_pdf.specs.Sheet.{start_if_due, started}
use Rattle.job_pdf.proofs.sheet.push_start_if_due.Goals as goal

pub returns-then-is_started-clause-text : goal.returns-then-is_started-clause-text
returns-then-is_started-clause-text g c =
    let text = c.args.text.now.items in
    subst (λ (b : Bool). text ≡ text ++ start_if_due b) (sym c.if-is_started.true) (sym (append-nil text))

pub returns-then-is_started-clause-document : goal.returns-then-is_started-clause-document
returns-then-is_started-clause-document g c =
    let old = c.args.document.now in
    subst (λ (b : Bool). old ≡ started b old) (sym c.if-is_started.true) refl

pub returns-clause-text : goal.returns-clause-text
returns-clause-text g c =
    let text = c.args.text.now.items in
    let new = c.push_start.new.text.items in
    subst (λ (b : Bool). OnOk c.push_start.result (new ≡ text ++ start_if_due b)) (sym c.if-is_started.false)
    (on_ok_weaker c.push_start.result (λ (written : HasWritten start_written text new c.push_start.new.self). written.text_is)
    c.push_start.ensures)

pub returns-clause-document : goal.returns-clause-document
returns-clause-document g c =
    let text = c.args.text.now.items in
    let new = c.push_start.new.text.items in
    let pdf = c.push_start.new.self in
    subst (λ (b : Bool). OnOk c.push_start.result (pdf ≡ started b c.args.document.now)) (sym c.if-is_started.false)
    (on_ok_weaker c.push_start.result (λ (written : HasWritten start_written text new pdf). written.pdf_is) c.push_start.ensures)
