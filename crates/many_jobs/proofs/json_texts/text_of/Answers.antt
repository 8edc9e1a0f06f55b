use Rattle.std.proofs.lemmas.Bool.{false≢true}
use Rattle.std.proofs.lemmas.Str.{IsUtf8-from_ascii}
use Rattle.many_jobs.proofs.json_texts.text_of.Goals as goal

pub unreachable-requires : goal.unreachable-requires
unreachable-requires c = false≢true (c.in-Err.ensures.succeeds (IsUtf8-from_ascii _ c.requires))
