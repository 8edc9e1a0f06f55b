use Rattle.std.proofs.Common.{IfOk, subst}
use Rattle.judgement.specs.Verdict.{IsExact, VerdictHolds}
use Rattle.subcommands.proofs.check.verdict_on.Goals as goal

pub returns-clause-exact : goal.returns-clause-exact
returns-clause-exact g c =
    subst (λ inner. IfOk c.check_job.result (λ verdict. IsExact c.args.fleet.now inner.now verdict)) c.new-source.ensures.inner
    c.check_job.ensures.known_exact

pub returns-clause-promise : goal.returns-clause-promise
returns-clause-promise g c =
    subst (λ inner. IfOk c.check_job.result (λ verdict. VerdictHolds c.args.fleet.now inner.now verdict)) c.new-source.ensures.inner
    c.check_job.ensures.known_headline
