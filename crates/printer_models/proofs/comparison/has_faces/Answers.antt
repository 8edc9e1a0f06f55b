use Rattle.std.proofs.Common.{below_more, sym, ◌∙◌}
use Rattle.printer_models.proofs.comparison.has_faces.Goals as goal

pub loop-id-preserved : goal.loop-id-preserved
loop-id-preserved g c =
    below_more _ _ c.loop-id.invariant
    (sym c.face.ensures.face ∙ c.is_face_of.ensures c.if-not-is_face_of.false ∙ c.row_numbered.ensures)
