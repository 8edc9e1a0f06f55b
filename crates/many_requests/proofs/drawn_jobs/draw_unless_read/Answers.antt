use Rattle.std.proofs.Common.{List, inl, inr, refl, subst}
use Rattle.compare_command.specs.Compare.{asked_for}
use Rattle.streams.specs.Used.{FileUse}
use Rattle.many_requests.specs.DrawnJobs.{LeavesDrawnJobs}
use Rattle.many_requests.proofs.drawn_jobs.draw_unless_read.Goals as goal

pub returns-in-Some : goal.returns-in-Some
returns-in-Some g c = inr (c.in-Some.read, refl, c.in-Some.ensures, refl, refl)

pub returns-in-None : goal.returns-in-None
returns-in-None g c =
    inl (subst
    (λ (used : List FileUse). LeavesDrawnJobs (asked_for c.args.asked.now) c.args.path.now c.draw_jobs.result used c.draw_jobs.new.used
    (g.O.Outlet.state c.args.stdout.now) (g.O.Outlet.state c.draw_jobs.new.stdout) (g.E.Outlet.state c.args.stderr.now)
    (g.E.Outlet.state c.draw_jobs.new.stderr))
    c.in-None.ensures c.draw_jobs.ensures)
