use Rattle.std.proofs.Common.{List, subst}
use Rattle.device_profile.specs.Printer.{Printer}
use Rattle.preflight.specs.Judgement.{IsAnswer}
use Rattle.foreign_calls.proofs.Known.{sentence_by}
use Rattle.foreign_calls.proofs.checking.tell.Goals as goal

pub returns-in-Ok-clause-sentence : goal.returns-in-Ok-clause-sentence
returns-in-Ok-clause-sentence g c =
    sentence_by c.args.group.now c.args.name.now c.args.job.now c.in-Ok.judgement c.told_of.result
    (subst (λ (fleet : List Printer). IsAnswer fleet c.args.job.now c.in-Ok.judgement) c.profiles.ensures c.in-Ok.ensures.right)
    c.told_of.ensures.row c.told_of.ensures.text
