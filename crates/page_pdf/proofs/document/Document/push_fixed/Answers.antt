use Rattle.std.proofs.Common.{List, ℕ, subst}
use Rattle.std.specs.Prelude.{OnOk}
use Rattle.page_pdf.specs.Document.{HasWritten, next_of}
use Rattle.page_pdf.proofs.document.Document.push_fixed.Goals as goal

pub returns : goal.returns
returns g c =
    subst
    (λ (body : List ℕ). OnOk c.push_next.result
    (HasWritten (next_of body c.args.self.now) c.args.text.now.items c.push_next.new.text.items c.push_next.new.self))
    c.bytes.ensures c.push_next.ensures
