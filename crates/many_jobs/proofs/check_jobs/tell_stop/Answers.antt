use Rattle.std.proofs.Common.{subst, sym, Some, None}
use Rattle.many_jobs.specs.CheckMany.{TellsStop}
use Rattle.many_jobs.proofs.check_jobs.tell_stop.Goals as goal

pub returns-in-Read-Some : goal.returns-in-Read-Some
returns-in-Read-Some g c =
    subst (λ error.
    TellsStop c.args.format error c.tell_unread.result (g.E.Outlet.state c.args.stderr.now) (g.E.Outlet.state c.tell_unread.new.stderr))
    (sym c.in-Read-Some.is-0) (c.args.word.now, Some c.as_bytes.result.now, c.tell_unread.ensures)

pub returns-in-Read-None : goal.returns-in-Read-None
returns-in-Read-None g c =
    subst (λ error.
    TellsStop c.args.format error c.tell_unread-in-Read-None.result (g.E.Outlet.state c.args.stderr.now)
    (g.E.Outlet.state c.tell_unread-in-Read-None.new.stderr))
    (sym c.in-Read-None.is-0) (c.args.word.now, None, c.tell_unread-in-Read-None.ensures)
