use Rattle.std.proofs.Common.{◌∙◌, Bool, None, Option, Some, if◌then◌else◌, option_map, refl, subst, sym, ℕ}
use Rattle.streams.specs.Source.{SourceState}
use Rattle.job_reports.specs.Reports.{verdict_told}
use Rattle.job_rows.specs.Kept.{kept_text}
use Rattle.many_jobs.specs.JobRow.{IsRightText, Rereads, near_rendering, place_shown}
use Rattle.many_jobs.proofs.job_row.reread_near.Goals as goal

pub returns-then-is_read_once-clause-read : goal.returns-then-is_read_once-clause-read
returns-then-is_read_once-clause-read g c =
    let due = option_map near_rendering (place_shown (verdict_told c.args.answer)) in
    let name = c.args.name.now in
    let start = g.J.Jobs.start c.args.jobs.now name in
    let ended = g.J.Jobs.ended c.args.jobs.now in
    subst (λ (once : Bool). Rereads (if once then None else due) start name None ended ended)
    (sym (sym c.is_read_once.ensures ∙ c.if-is_read_once.true)) refl

pub returns-in-None-clause-read : goal.returns-in-None-clause-read
returns-in-None-clause-read g c =
    let due = option_map near_rendering (place_shown (verdict_told c.args.answer)) in
    let name = c.args.name.now in
    let start = g.J.Jobs.start c.args.jobs.now name in
    let ended = g.J.Jobs.ended c.args.jobs.now in
    subst (λ (once : Bool). Rereads (if once then None else due) start name None ended ended)
    (sym (sym c.is_read_once.ensures ∙ c.if-is_read_once.false))
    (subst (λ (place : Option ℕ). Rereads (option_map near_rendering place) start name None ended ended) c.in-None.ensures refl)

pub returns-in-Some-clause-read : goal.returns-in-Some-clause-read
returns-in-Some-clause-read g c =
    let due = option_map near_rendering (place_shown (verdict_told c.args.answer)) in
    let name = c.args.name.now in
    let start = g.J.Jobs.start c.args.jobs.now name in
    let ended = g.J.Jobs.ended c.args.jobs.now in
    let ended' = g.J.Jobs.ended c.end.new.self in
    let after = g.J.Job.Source.state c.read_near-near.new.job in
    let text = kept_text (λ text. text.items) c.read_near-near.result in
    let right =
    subst (λ (s : SourceState). IsRightText (near_rendering c.in-Some.place) s after text) c.job-job.ensures.start
    c.read_near-near.ensures in
    subst (λ (once : Bool). Rereads (if once then None else due) start name (Some text) ended ended')
    (sym (sym c.is_read_once.ensures ∙ c.if-is_read_once.false))
    (subst (λ (place : Option ℕ). Rereads (option_map near_rendering place) start name (Some text) ended ended') c.in-Some.ensures
    (after, right, c.end.ensures.ended))
