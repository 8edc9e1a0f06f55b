-- Lemmas on checks of a job.
use Rattle.std.proofs.Common.{◌≡◌, Bool, List, ℕ, None, Result, Ok, Err, IfErr, IfOk, inl, subst}
use Rattle.foreign_calls.specs.declared.why.Why.{Why}
use Rattle.foreign_calls.specs.Answers.{IsStop}
use Rattle.job_reports.specs.Groups.{Groups, reported}
use Rattle.job_reports.specs.JobSentences.{job_sentence}
use Rattle.judgement.specs.declared.failing_item.Judgement.{Judgement}
use Rattle.preflight.specs.Judgement.{IsAnswer}
use Rattle.web_module.specs.Judgements.{IsJudgedOf, IsSaidOf, IsUnjudgedOf, Judged, judgement_row}
use Rattle.web_module.specs.Printers.{Fleet, IsFleetOf, group_of}

-- what a right answer on a job is told by is said of that job
pub said_by : (group : Groups) (name job : List ℕ) (answer : Judgement) (work : Result Judged Why) → IsAnswer group.fleet job answer
    → IfOk work (λ judged. judged.row ≡ judgement_row answer)
    → IfOk work (λ judged. judged.text ≡ job_sentence (reported group name (Ok answer) None)) → IfOk work (IsSaidOf group name job)
said_by group name job answer (Ok judged) right row text = (answer, right, row, text)
said_by group name job answer (Err why) right row text = tt

pub judged_of : (texts : List (List ℕ)) (fleet : Fleet) (group : Groups) (is_each : Bool) (name job : List ℕ)
    (work : Result Judged Why) → IsFleetOf texts fleet → group ≡ group_of fleet is_each → IfOk work (IsSaidOf group name job)
    → IfOk work (IsJudgedOf texts is_each name job)
judged_of texts fleet group is_each name job (Ok judged) read asked said =
    (fleet, read, subst (λ (g : Groups). IsSaidOf g name job judged) asked said)
judged_of texts fleet group is_each name job (Err why) read asked said = tt

pub stops_unjudged : (texts : List (List ℕ)) (work : Result Judged Why) → IfErr work IsStop → IfErr work (IsUnjudgedOf texts)
stops_unjudged texts (Ok judged) stops = tt
stops_unjudged texts (Err why) stops = inl stops
