use Rattle.std.proofs.Common.{List, Option, [], ap, option_copied, sym, ℕ, ◌∙◌}
use Rattle.std.specs.Path.{path_file_name}
use Rattle.std.specs.Prelude.{unwrap_or}
use Rattle.many_requests.proofs.golden_jobs.last_part.Goals as goal

pub returns-in-Some : goal.returns-in-Some
returns-in-Some c =
    ap (λ (name : Option (List ℕ)). unwrap_or name [])
    (ap option_copied (sym c.in-Some.is) ∙ (c.file_name-found.ensures ∙ ap path_file_name c.new.ensures))

pub returns-in-None : goal.returns-in-None
returns-in-None c =
    ap (λ (name : Option (List ℕ)). unwrap_or name [])
    (ap option_copied (sym c.in-None.is) ∙ (c.file_name-found.ensures ∙ ap path_file_name c.new.ensures))
