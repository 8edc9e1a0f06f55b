use Rattle.std.proofs.Common.{rules, sym, ◌∙◌}
use Rattle.std.proofs.lemmas.List.Folds.{list_any_at}
use Rattle.meanings.proofs.ExplainFacts.{any_of_map, none_more, none_at_all}
use Rattle.many_jobs.specs.JobRow.{has_name}
use Rattle.many_jobs.proofs.job_row.is_among.Goals as goal

pub returns-then-has_name : goal.returns-then-has_name
returns-then-has_name c =
    sym (any_of_map (has_name c.args.job.now) (λ name. name.now) c.args.names.now
    ∙ list_any_at (λ name. has_name c.args.job.now name.now) c.args.names.now c.loop-name.name-index _ (search rules)
    (sym c.has_name.ensures ∙ c.if-has_name.true))

pub loop-name-preserved : goal.loop-name-preserved
loop-name-preserved c =
    none_more (λ name. has_name c.args.job.now name.now) c.args.names.now c.loop-name.name-index _ (search rules)
    c.loop-name.invariant (sym c.has_name.ensures ∙ c.if-has_name.false)

pub returns : goal.returns
returns c =
    sym (any_of_map (has_name c.args.job.now) (λ name. name.now) c.args.names.now
    ∙ none_at_all
    (λ name. has_name c.args.job.now name.now) c.args.names.now c.loop-name.name-index c.loop-name-test.false c.loop-name.invariant)
