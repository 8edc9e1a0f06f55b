use Rattle.std.proofs.Common.{ℕ, subst}
use Rattle.std.specs.Prelude.{OnOk}
use Rattle.page_pdf.specs.Document.{HasWritten, object}
use Rattle.page_pdf.proofs.document.Document.push_next.Goals as goal

pub returns : goal.returns
returns g c =
    subst
    (λ (number : ℕ). OnOk c.push_object.result
    (HasWritten (object number c.args.body.now c.args.self.now) c.args.text.now.items c.push_object.new.text.items
    c.push_object.new.self))
    c.next_object-number.ensures.value c.push_object.ensures
