use Rattle.std.proofs.Common.{map, subst, sym}
use Rattle.many_jobs.proofs.JobChecks.{error_of_end}
use Rattle.many_jobs.specs.CheckMany.{TellsRefusal, refusal_text}
use Rattle.job_reports.specs.Refusals.{TellsLine}
use Rattle.requests.specs.declared.status.Trouble.TheVariants.{Refused}
use Rattle.many_jobs.proofs.check_jobs.tell_refusal.Goals as goal

pub returns-in-Profile : goal.returns-in-Profile
returns-in-Profile g c =
    let err = g.E.Outlet.state c.args.stderr.now in
    let err' = g.E.Outlet.state c.tell_refused.new.stderr in
    let format = c.args.asked.now.telling.format in
    subst (λ status. TellsRefusal format status (map (λ word. word.now) c.args.asked.now.printers.now) c.tell_refused.result err err')
    (sym c.in-Profile.is)
    (subst
    (λ word.
    TellsLine c.tell_refused.result Refused (refusal_text format c.in-Profile.number word c.in-Profile.line c.in-Profile.cause) err err')
    c.word_of-word.ensures c.tell_refused.ensures)

pub tell_stop-requires-clause-end : goal.tell_stop-requires-clause-end
tell_stop-requires-clause-end g c = error_of_end c.requires.end.0 c.args.status c.in-Stopped.error c.in-Stopped.is c.requires.end.1

pub returns-in-Stopped : goal.returns-in-Stopped
returns-in-Stopped g c =
    subst (λ status.
    TellsRefusal c.args.asked.now.telling.format status (map (λ word. word.now) c.args.asked.now.printers.now) c.tell_stop.result
    (g.E.Outlet.state c.args.stderr.now) (g.E.Outlet.state c.tell_stop.new.stderr))
    (sym c.in-Stopped.is) c.tell_stop.ensures
