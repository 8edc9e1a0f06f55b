use Rattle.std.specs.Cmp.{unsigned_Decides}
use Rattle.std.proofs.lemmas.Slice.Eq.{starts_is}
use Rattle.std.specs.Prelude.{[], ◌∷◌}
use Rattle.pcl_items.specs.PjlLines.Text.{at_sign}
use Rattle.pcl_lexer.proofs.PjlLines.Exits.{tested}
use Rattle.pcl_lexer.proofs.pjl.first.begins_pjl.Goals as goal

pub returns : goal.returns
returns c =
    let starts = starts_is unsigned_Decides c.args.bytes.now (at_sign ∷ []) c.starts_with.result c.starts_with.ensures.value in
    tested (at_sign ∷ []) c.starts_with.result c.args.bytes.now starts.0 starts.1
