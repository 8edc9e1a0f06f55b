use Rattle.std.proofs.lemmas.Result.{IfOk-weaker}
use Rattle.named_inputs.proofs.FrontFacts.{text_by}
use Rattle.named_inputs.proofs.texts.read_text_from.Goals as goal

pub returns-clause-reads : goal.returns-clause-reads
returns-clause-reads g c =
    IfOk-weaker c.read_front.result _ _ (λ text by. text_by _ _ text.items c.requires.unread by) c.read_front.ensures.given
