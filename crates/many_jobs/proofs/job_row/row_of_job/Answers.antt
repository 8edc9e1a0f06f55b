use Rattle.std.proofs.Common.{◌≡◌, ◌∙◌, ap, ℕ, List, [], ◌++◌, option_map}
use Rattle.many_jobs.proofs.job_row.row_of_job.Goals as goal

pub returns : goal.returns
returns g c =
    let from_nothing = λ (row : List ℕ). λ (is : c.new-row.result.items ≡ []). ap (λ l. l ++ row) is in
    (option_map (λ words. words.now) c.map-cause.result, c.in_ok-push_told_row.ensures ∙ from_nothing _ c.new-row.ensures.items)
