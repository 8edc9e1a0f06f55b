use Rattle.std.proofs.Common.{Err, subst, sym}
use Rattle.many_jobs.specs.JobRow.{IsRightText, near_rendering}
use Rattle.many_jobs.proofs.JobRow.{text_had, text_stopped}
use Rattle.many_jobs.proofs.kept_readings.read_near.Goals as goal

pub returns-in-Ok : goal.returns-in-Ok
returns-in-Ok g c =
    let start = g.S.Source.state c.args.job.now in
    let after = g.S.Source.state c.render_job.new.reader in
    text_had (near_rendering c.args.place) start after _ _
    _ c.into_bytes.result.items c.in-Ok.ensures c.new-text.ensures.bytes c.into_bytes.ensures

pub returns : goal.returns
returns g c =
    let start = g.S.Source.state c.args.job.now in
    let after = g.S.Source.state c.render_job.new.reader in
    subst (λ error. IsRightText (near_rendering c.args.place) start after (Err error)) (sym c.kept_error.ensures)
    (text_stopped (near_rendering c.args.place) start after _ _ c.in-Err.error c.in-Err.ensures)
