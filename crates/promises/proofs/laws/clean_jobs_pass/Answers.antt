use Rattle.page_env.specs.Settings.{watched}
use Rattle.promises.proofs.CleanPasses.{passes_where_clean}
use Rattle.promises.proofs.laws.clean_jobs_pass.Goals as goal

pub returns : goal.returns
returns c = passes_where_clean (λ printer panel reading. c.watched_is_plain.ensures printer (watched printer) panel reading)
