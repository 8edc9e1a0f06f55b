use Rattle.std.proofs.Common.{◌≢◌, [], subst, sym}
use Rattle.many_jobs.specs.JobChecks.{IsRightAnswer}
use Rattle.many_jobs.proofs.JobChecks.{error_of_job, right_verdict}
use Rattle.many_jobs.proofs.job_checks.check_group.Goals as goal

pub returns : goal.returns
returns g c =
    let check = c.check_job_within.ensures in
    let answer = c.check_job_within.result in
    let start = g.S.Source.state c.args.job.now in
    let after = g.S.Source.state c.check_job_within.new.reader in
    let fleet = c.profiles.result.now in
    let some = subst (λ f. f ≢ []) (sym c.profiles.ensures) c.requires.some in
    let right : IsRightAnswer fleet start after answer = record {
      verdict = right_verdict fleet start after answer check.exact check.headline check.needed;
      item = check.told;
      page = check.paged;
      cursor = check.placed;
      font = check.asked;
      error = error_of_job fleet answer check.never_write check.no_profile.0 some;
      within = check.within;
      items = check.items;
      read = check.read;
    } in
    subst (λ fleet. IsRightAnswer fleet start after answer) c.profiles.ensures right
