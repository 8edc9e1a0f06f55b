use Rattle.std.proofs.Common.{rules, sym, ◌∙◌}
use Rattle.std.proofs.lemmas.List.Folds.{list_any_at}
use Rattle.meanings.proofs.ExplainFacts.{any_of_map, none_more, none_at_all}
use Rattle.many_requests.specs.Documents.{has_same_part}
use Rattle.many_requests.proofs.documents.is_named_in.Goals as goal

pub returns-then-has_same_part : goal.returns-then-has_same_part
returns-then-has_same_part c =
    sym (any_of_map (has_same_part c.args.part.now) (λ job. job.now) c.args.jobs.now
    ∙ list_any_at (λ job. has_same_part c.args.part.now job.now) c.args.jobs.now c.loop-job.job-index _ (search rules)
    (sym c.has_same_part.ensures ∙ c.if-has_same_part.true))

pub loop-job-preserved : goal.loop-job-preserved
loop-job-preserved c =
    none_more (λ job. has_same_part c.args.part.now job.now) c.args.jobs.now c.loop-job.job-index _ (search rules)
    c.loop-job.invariant (sym c.has_same_part.ensures ∙ c.if-has_same_part.false)

pub returns : goal.returns
returns c =
    sym (any_of_map (has_same_part c.args.part.now) (λ job. job.now) c.args.jobs.now
    ∙ none_at_all
    (λ job. has_same_part c.args.part.now job.now) c.args.jobs.now c.loop-job.job-index c.loop-job-test.false c.loop-job.invariant)
