use Rattle.std.proofs.Common.{◌≡◌, ◌∙◌, ap, ℕ, List, [], ◌++◌, option_map}
use Rattle.many_jobs.proofs.told_lines.line_of_job.Goals as goal

pub returns : goal.returns
returns g c =
    let from_nothing = λ (line : List ℕ). λ (is : c.new-line.result.items ≡ []). ap (λ l. l ++ line) is in
    (option_map (λ words. words.now) c.map-cause.result, c.in_ok-push_report.ensures ∙ from_nothing _ c.new-line.ensures.items)
