use Rattle.std.proofs.Common.{List, ap, ℕ, ◌∙◌}
use Rattle.std.specs.Path.{path_join}
use Rattle.many_requests.proofs.golden_jobs.golden_path.Goals as goal

pub returns : goal.returns
returns c =
    c.into_string.ensures
    ∙ (c.in_ok-path.ensures
    ∙ (ap (λ (folder : List ℕ). path_join folder c.last_part.result.now) c.new.ensures
    ∙ ap (path_join c.args.folder.now) c.last_part.ensures))
