use Rattle.std.specs.Cmp.{unsigned_Decides}
use Rattle.std.proofs.lemmas.Slice.Eq.{starts_is}
use Rattle.pcl_items.specs.PjlLines.Exit.{exit_field}
use Rattle.pcl_lexer.proofs.PjlLines.Exits.{tested}
use Rattle.pcl_lexer.proofs.lexer.first.begins_exit.Goals as goal

pub returns : goal.returns
returns c =
    let starts = starts_is unsigned_Decides c.args.bytes.now exit_field c.starts_with.result c.starts_with.ensures.value in
    tested exit_field c.starts_with.result c.args.bytes.now starts.0 starts.1
