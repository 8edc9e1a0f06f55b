use Rattle.std.proofs.Common.{subst}
use Rattle.page_pdf.specs.Document.{HasWritten, Pdf, faces_written, four, head_text, hidden_written, maps_written, no_pdf, patterns_written}
use Rattle.page_pdf.specs.Document.{start_written, writes}
use Rattle.page_pdf.proofs.Steps.{four_written, then_written}
use Rattle.page_pdf.proofs.document.Document.push_start.Goals as goal

pub returns : goal.returns
unfolding start_written
returns g c =
    let text = c.args.text.now.items in
    let mid = c.push_text.new.text.items in
    let between = c.push_text.new.self in
    then_written c.push_maps.result (writes head_text no_pdf) (four faces_written hidden_written patterns_written maps_written) text mid
    c.push_maps.new.text.items between c.push_maps.new.self
    (subst (λ (pdf : Pdf). HasWritten (writes head_text pdf) text mid between) c.clear.ensures c.in_ok-push_text.ensures)
    (four_written c.push_maps.result faces_written hidden_written patterns_written maps_written mid c.push_faces.new.text.items
    c.push_hidden_faces.new.text.items c.push_patterns.new.text.items c.push_maps.new.text.items between c.push_faces.new.self
    c.push_hidden_faces.new.self c.push_patterns.new.self c.push_maps.new.self c.in_ok-push_faces.ensures
    c.in_ok-push_hidden_faces.ensures c.in_ok-push_patterns.ensures c.push_maps.ensures)
