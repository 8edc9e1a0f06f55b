use Rattle.std.proofs.Common.{ap, subst, sym, ◌∙◌}
use Rattle.std.proofs.lemmas.Result.{IfOk-weaker, err_from_is_err_and}
use Rattle.device_profile.specs.Printer.{first_panel}
use Rattle.comparison.specs.Comparing.{EndsRight, HasCompared, IsRight}
use Rattle.comparison.specs.Running.{RunState}
use Rattle.comparison.proofs.Partings.{together_none}
use Rattle.comparison.proofs.compare.compare_jobs.Goals as goal

pub finish-requires-clause-old_job : goal.finish-requires-clause-old_job
finish-requires-clause-old_job g c = c.in_ok-found.ensures.old_read

pub finish-requires-clause-new_job : goal.finish-requires-clause-new_job
finish-requires-clause-new_job g c = c.in_ok-found.ensures.new_read

pub returns-clause-compared : goal.returns-clause-compared
returns-clause-compared g c =
    let printer = c.args.profile.now in
    let panel = c.first_panel-panel.result in
    let old_first = g.S.Source.state c.args.old_job.now in
    let new_first = g.T.Source.state c.args.new_job.now in
    let events = c.compare_events.new in
    let old_now = g.S.Source.state events.old_job in
    let new_now = g.T.Source.state events.new_job in
    let old_now' = g.S.Source.state c.finish.new.old_job in
    let new_now' = g.T.Source.state c.finish.new.new_job in
    let second = c.into_job-second.result in
    let begun = c.new-first.result in
    let compared : HasCompared printer panel old_first old_now new_first new_now events.first second c.in_ok-found.found =
    subst (λ (s : RunState). HasCompared printer panel old_first old_now new_first new_now events.first s c.in_ok-found.found)
    (sym c.into_job-second.ensures)
    (c.in_ok-found.ensures.compared printer panel old_first new_first
    (c.in_ok-follower.ensures.stand printer panel old_first new_first
    (together_none printer panel old_first new_first begun c.start-spot.result c.start-spot.ensures (c.new-first.ensures.run old_first)
    (c.new-first.ensures.run new_first)))) in
    let old_number = c.compare_events.ensures.old_number ∙ (c.go_together.ensures.number ∙ c.new-first.ensures.number) in
    let new_number =
    ap (λ (s : RunState). s.number) c.into_job-second.ensures
    ∙ (c.compare_events.ensures.new_number ∙ (c.in_ok-follower.ensures.new_number ∙ c.new-first.ensures.number)) in
    IfOk-weaker c.finish.result (EndsRight old_now old_now' new_now new_now' events.first second c.in_ok-found.found)
    (IsRight c.args.number printer (first_panel printer) old_first old_now' new_first new_now')
    (λ comparison right.
    subst (λ p. IsRight c.args.number printer p old_first old_now' new_first new_now' comparison) c.first_panel-panel.ensures.value
    (right printer panel c.args.number old_first new_first compared old_number new_number))
    c.finish.ensures.compared

pub compare_events-requires-clause-old_job : goal.compare_events-requires-clause-old_job
compare_events-requires-clause-old_job g c = c.in_ok-follower.ensures.old_read

pub compare_events-requires-clause-new_job : goal.compare_events-requires-clause-new_job
compare_events-requires-clause-new_job g c = c.in_ok-follower.ensures.new_read

pub returns-in_err-follower-clause-old_read : goal.returns-in_err-follower-clause-old_read
returns-in_err-follower-clause-old_read g c =
    let same = err_from_is_err_and c.from_residual.result c.from_residual.ensures.1 in
    rw (same.1, same.2) c.in_err-follower.ensures.old_read

pub returns-in_err-follower-clause-new_read : goal.returns-in_err-follower-clause-new_read
returns-in_err-follower-clause-new_read g c =
    let same = err_from_is_err_and c.from_residual.result c.from_residual.ensures.1 in
    rw (same.1, same.2) c.in_err-follower.ensures.new_read

pub returns-in_err-follower-clause-err : goal.returns-in_err-follower-clause-err
returns-in_err-follower-clause-err g c =
    let same = err_from_is_err_and c.from_residual.result c.from_residual.ensures.1 in
    rw (same.1, same.2) c.in_err-follower.ensures.err

pub returns-in_err-found-clause-old_read : goal.returns-in_err-found-clause-old_read
returns-in_err-found-clause-old_read g c =
    let same = err_from_is_err_and c.from_residual-in_err-found.result c.from_residual-in_err-found.ensures.1 in
    rw (same.1, same.2) c.in_err-found.ensures.old_read

pub returns-in_err-found-clause-new_read : goal.returns-in_err-found-clause-new_read
returns-in_err-found-clause-new_read g c =
    let same = err_from_is_err_and c.from_residual-in_err-found.result c.from_residual-in_err-found.ensures.1 in
    rw (same.1, same.2) c.in_err-found.ensures.new_read

pub returns-in_err-found-clause-err : goal.returns-in_err-found-clause-err
returns-in_err-found-clause-err g c =
    let same = err_from_is_err_and c.from_residual-in_err-found.result c.from_residual-in_err-found.ensures.1 in
    rw (same.1, same.2) c.in_err-found.ensures.err
