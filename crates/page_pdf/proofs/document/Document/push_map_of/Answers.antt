use Rattle.std.proofs.Common.{List, ℕ, subst}
use Rattle.std.specs.Prelude.{OnOk}
use Rattle.page_pdf.specs.Document.{HasWritten, next_of}
use Rattle.page_pdf.specs.Maps.{map_object}
use Rattle.page_pdf.proofs.Steps.{built}
use Rattle.page_pdf.proofs.document.Document.push_map_of.Goals as goal

pub returns : goal.returns
returns g c =
    subst
    (λ (body : List ℕ). OnOk c.push_next.result
    (HasWritten (next_of body c.args.self.now) c.args.text.now.items c.push_next.new.text.items c.push_next.new.self))
    (built c.new-body.result.items c.push_map.new.text.items c.as_slice.result.now (map_object c.args.repertoire) c.new-body.ensures.items
    c.in_ok-push_map.ensures c.as_slice.ensures.value)
    c.push_next.ensures
