use Rattle.std.proofs.Common.{List, ℕ, subst}
use Rattle.std.specs.Prelude.{OnOk}
use Rattle.page_pdf.specs.Document.{HasWritten, object}
use Rattle.page_pdf.specs.Objects.{pages_body}
use Rattle.page_pdf.proofs.Steps.{built}
use Rattle.page_pdf.proofs.document.Document.push_pages.Goals as goal

pub returns : goal.returns
returns g c =
    subst
    (λ (body : List ℕ). OnOk c.push_object.result
    (HasWritten (object 2 body c.args.self.now) c.args.text.now.items c.push_object.new.text.items c.push_object.new.self))
    (built c.new-body.result.items c.push_pages_body.new.text.items c.as_slice.result.now (pages_body c.args.count)
    c.new-body.ensures.items
    c.in_ok-push_pages_body.ensures c.as_slice.ensures.value)
    c.push_object.ensures
