use Rattle.std.proofs.Common.{List, subst}
use Rattle.device_profile.specs.Printer.{Printer}
use Rattle.preflight.specs.Judgement.{IsAnswer}
use Rattle.web_module.proofs.JudgementFacts.{said_by}
use Rattle.web_module.proofs.judging.judged_for.Goals as goal

pub returns-in-Ok-clause-judged : goal.returns-in-Ok-clause-judged
returns-in-Ok-clause-judged g c =
    said_by c.args.group.now c.args.name.now c.args.job.now c.in-Ok.judgement c.said_of.result
    (subst (λ (fleet : List Printer). IsAnswer fleet c.args.job.now c.in-Ok.judgement) c.profiles.ensures c.in-Ok.ensures.right)
    c.said_of.ensures.row c.said_of.ensures.text
