use Rattle.meanings.proofs.ExplainFacts.{told_unknown}
use Rattle.meanings.proofs.explain.explain_from.Goals as goal

pub returns-then-not-is_known-clause-complaint : goal.returns-then-not-is_known-clause-complaint
returns-then-not-is_known-clause-complaint g c = λ unknown. told_unknown _ _ c.args.code c.in-Some.word c.in-Some.is c.refuse.ensures.line
