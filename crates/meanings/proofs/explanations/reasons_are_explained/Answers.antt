use Rattle.meanings.proofs.ExplainedReasons.{explain_reasons}
use Rattle.meanings.proofs.explanations.reasons_are_explained.Goals as goal

pub returns : goal.returns
returns c = explain_reasons
