use Rattle.std.proofs.Common.{rules, refl, subst, sym, ◌<◌, ◌≢◌, ◌∙◌, [], ap}
use Rattle.many_jobs.specs.Asked.{told_by}
use Rattle.many_jobs.proofs.JobChecks.{groups_cut, groups_more, of_group-some, tells_none, where_err}
use Rattle.many_jobs.specs.JobChecks.{work}
use Rattle.many_jobs.proofs.job_checks.tell_job.Goals as goal

pub returns-in_err-told-clause-front : goal.returns-in_err-told-clause-front
returns-in_err-told-clause-front g c =
    let old = work (g.O.Outlet.state c.args.stdout.now) (g.J.Jobs.ended c.args.jobs.now) in
    let mid = work (g.O.Outlet.state c.loop-number.stdout) (g.J.Jobs.ended c.loop-number.jobs) in
    let new = work (g.O.Outlet.state c.tell_group.new.stdout) (g.J.Jobs.ended c.tell_group.new.jobs) in
    where_err c.from_residual.result _
    (groups_cut c.args.printers.now (told_by c.args.telling.now) (g.J.Jobs.start c.args.jobs.now) c.args.name.now c.loop-number.number old
    mid new c.loop-number.ending c.loop-number.invariant.told _ c.loop-number.invariant.start
    (subst (λ n. c.loop-number.number < n) c.count-number-end.ensures (search rules)) c.in_err-told.ensures.front)

pub loop-number-preserved : goal.loop-number-preserved
loop-number-preserved g c =
    let old = work (g.O.Outlet.state c.args.stdout.now) (g.J.Jobs.ended c.args.jobs.now) in
    let mid = work (g.O.Outlet.state c.loop-number.stdout) (g.J.Jobs.ended c.loop-number.jobs) in
    let new = work (g.O.Outlet.state c.tell_group.new.stdout) (g.J.Jobs.ended c.tell_group.new.jobs) in
    record {
      working = c.in_ok-told.ensures.write;
      start = c.tell_group.ensures.start ∙ c.loop-number.invariant.start;
      told = rw c.worse-ending.ensures
          (groups_more c.args.printers.now (told_by c.args.telling.now)
          (g.J.Jobs.start c.args.jobs.now) c.args.name.now c.loop-number.number old mid new c.loop-number.ending
          c.loop-number.invariant.told _ c.loop-number.invariant.start _ c.in_ok-told.ensures.told);
    }

pub loop-number-init : goal.loop-number-init
loop-number-init g c = record {
  working = c.requires.stdout;
  start = refl;
  told =
      tells_none c.args.printers.now (told_by c.args.telling.now) (g.J.Jobs.start c.args.jobs.now)
      (work (g.O.Outlet.state c.args.stdout.now) (g.J.Jobs.ended c.args.jobs.now));
}

pub tell_group-requires : goal.tell_group-requires
tell_group-requires g c =
    let printers = c.args.printers.now in
    λ k. (
      (refl, tt),
      (
        c.loop-number.invariant.working,
        of_group-some printers.is_each printers.fleet c.loop-number.number c.requires.some
            (subst (λ n. c.loop-number.number < n) c.count-number-end.ensures (search rules)),
      ),
    )
