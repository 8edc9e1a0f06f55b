use Rattle.std.proofs.Common.{◌≡◌, ◌∙◌, ◌++◌, ℕ, List, ap}
use Rattle.std.proofs.lemmas.Result.{on_ok_weaker}
use Rattle.page_pdf.specs.Table.{places_table}
use Rattle.page_pdf.proofs.document.Document.push_table.Goals as goal

pub returns : goal.returns
returns g c =
    let text = c.args.text.now.items in
    let places = c.places.result.now in
    let written = c.written.result in
    on_ok_weaker c.push_places_table.result
    (λ (appended : c.push_places_table.new.text.items ≡ text ++ places_table places written).
    appended
    ∙ (ap (λ (l : List ℕ). text ++ places_table l written) c.places.ensures
    ∙ ap (λ (n : ℕ). text ++ places_table c.args.self.now.places n) c.written.ensures))
    c.push_places_table.ensures
