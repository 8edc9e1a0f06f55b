use Rattle.std.proofs.Common.{rules}
use Rattle.meanings.proofs.ExplainFacts.{Writes-unknown}
use Rattle.meanings.proofs.explain.refuse.Goals as goal

pub returns-clause-line : goal.returns-clause-line
returns-clause-line g c = Writes-unknown _ _ c.args.code.now c.as_bytes.result.now (search rules) c.write_pieces.ensures
