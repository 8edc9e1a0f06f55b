use Rattle.std.proofs.Common.{rules, subst, ◌∙◌}
use Rattle.std.proofs.lemmas.Result.{err_from_is_err_and}
use Rattle.streams.specs.Outlet.{Adds}
use Rattle.job_reports.specs.Right.{IsRightVerdict}
use Rattle.subcommands.proofs.Leaves.{LeavesAtStop-memory}
use Rattle.subcommands.proofs.check.write_verdict.Goals as goal

pub returns-in_err-line-clause-err : goal.returns-in_err-line-clause-err
returns-in_err-line-clause-err g c =
    LeavesAtStop-memory c.from_residual-in_err-line.result
    (IsRightVerdict (g.S.Source.state c.args.job.now) (g.S.Source.state c.check_job.new.reader) c.args.fleet.now)
    (g.O.Outlet.state c.args.stdout.now) c.from_residual-in_err-line.ensures.1

pub returns-clause-ok : goal.returns-clause-ok
returns-clause-ok g c = (
  record { exact = c.in_ok-verdict.ensures.exact; promise = c.in_ok-verdict.ensures.headline; needed = c.in_ok-verdict.ensures.needed },
  subst (λ text. Adds (g.O.Outlet.state c.args.stdout.now) (g.O.Outlet.state c.write_text.new.outlet) text)
      (c.as_slice.ensures.value ∙ c.in_ok-line.ensures)
      (c.in_ok-write_text.ensures.text.whole (search rules)),
)

pub returns-in_err-line-clause-read : goal.returns-in_err-line-clause-read
returns-in_err-line-clause-read g c =
    let same = err_from_is_err_and c.from_residual-in_err-line.result c.from_residual-in_err-line.ensures.1 in
    rw (same.1, same.2) c.in_ok-verdict.ensures.read

pub returns-clause-read : goal.returns-clause-read
returns-clause-read g c = c.in_ok-verdict.ensures.read

pub returns-clause-write : goal.returns-clause-write
returns-clause-write g c = c.in_ok-write_text.ensures.status
