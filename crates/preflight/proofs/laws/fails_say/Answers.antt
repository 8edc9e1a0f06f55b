use Rattle.page_env.specs.Settings.{watched}
use Rattle.preflight.proofs.Failures.{fail_says}
use Rattle.preflight.proofs.laws.fails_say.Goals as goal

pub returns : goal.returns
returns c =
    fail_says c.watched_runs_are_alike.ensures (λ printer panel reading. c.watched_is_plain.ensures printer (watched printer) panel reading)
    (λ printer panel reading. c.unset_is_read.ensures printer (watched printer) panel reading)
