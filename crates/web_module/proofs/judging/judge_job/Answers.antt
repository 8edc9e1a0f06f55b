use Rattle.std.proofs.Common.{inr}
use Rattle.web_module.specs.Printers.{texts_of}
use Rattle.web_module.proofs.JudgementFacts.{judged_of, stops_unjudged}
use Rattle.web_module.proofs.judging.judge_job.Goals as goal

pub returns-in-Ok-clause-judged : goal.returns-in-Ok-clause-judged
returns-in-Ok-clause-judged g c =
    judged_of (texts_of c.args.lengths.now c.args.texts.now) c.in-Ok.printers c.group-asked.result c.args.is_each c.args.name.now
    c.args.job.now c.judged_for.result c.in-Ok.ensures.printers c.group-asked.ensures c.judged_for.ensures.judged

pub returns-in-Ok-clause-why : goal.returns-in-Ok-clause-why
returns-in-Ok-clause-why g c =
    stops_unjudged (texts_of c.args.lengths.now c.args.texts.now) c.judged_for.result c.judged_for.ensures.stops

pub returns-in-Err-clause-why : goal.returns-in-Err-clause-why
returns-in-Err-clause-why g c = inr c.in-Err.ensures.refused
