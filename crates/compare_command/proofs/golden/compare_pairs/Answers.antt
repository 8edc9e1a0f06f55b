use Rattle.std.proofs.Common.{map, refl, ◌∙◌}
use Rattle.requests.specs.declared.status.Status.TheVariants.{Stopped}
use Rattle.many_jobs.specs.JobChecks.{work}
use Rattle.compare_command.specs.Golden.{golden_for}
use Rattle.compare_command.proofs.Pairs.{cut_here, told_all, told_more}
use Rattle.compare_command.proofs.golden.compare_pairs.Goals as goal

pub tell_pair-requires : goal.tell_pair-requires
tell_pair-requires g c = λ k. ((refl, tt), c.loop-pair.invariant.working)

pub loop-pair-init : goal.loop-pair-init
loop-pair-init g c = record { working = c.requires; start = refl; onward = λ status new h. h }

pub loop-pair-preserved : goal.loop-pair-preserved
loop-pair-preserved g c =
    let so_far = c.loop-pair.invariant in
    record {
      working = c.in-Ok.ensures.working;
      start = c.tell_pair.ensures.start ∙ so_far.start;
      onward = λ status new h.
          so_far.onward status new
          (told_more (golden_for c.args.asked.now) c.args.printers.now.fleet.items
          (map (λ name. name.items) c.args.printers.now.names.items) (g.J.Jobs.start c.args.jobs.now)
          (g.J.Jobs.start c.loop-pair.jobs) so_far.start c.args.pairs.now c.loop-pair.pair-index _ c.loop-pair-test.true _
          c.of_pair-pair_asked.ensures c.loop-pair.ending
          (work (g.O.Outlet.state c.loop-pair.stdout) (g.J.Jobs.ended c.loop-pair.jobs)) c.in-Ok.told
          (work (g.O.Outlet.state c.tell_pair.new.stdout) (g.J.Jobs.ended c.tell_pair.new.jobs)) c.in-Ok.ensures.told
          c.worse-ending.result c.worse-ending.ensures status new h);
    }

pub returns-in-Err : goal.returns-in-Err
returns-in-Err g c =
    let so_far = c.loop-pair.invariant in
    so_far.onward (Stopped c.in-Err.error) (work (g.O.Outlet.state c.tell_pair.new.stdout) (g.J.Jobs.ended c.tell_pair.new.jobs))
    (cut_here (golden_for c.args.asked.now) c.args.printers.now.fleet.items
    (map (λ name. name.items) c.args.printers.now.names.items) (g.J.Jobs.start c.args.jobs.now)
    (g.J.Jobs.start c.loop-pair.jobs) so_far.start c.args.pairs.now c.loop-pair.pair-index _ c.loop-pair-test.true _
    c.of_pair-pair_asked.ensures c.loop-pair.ending
    (work (g.O.Outlet.state c.loop-pair.stdout) (g.J.Jobs.ended c.loop-pair.jobs)) c.in-Err.error
    (work (g.O.Outlet.state c.tell_pair.new.stdout) (g.J.Jobs.ended c.tell_pair.new.jobs)) c.in-Err.ensures.cut)

pub returns : goal.returns
returns g c =
    let now = work (g.O.Outlet.state c.loop-pair.stdout) (g.J.Jobs.ended c.loop-pair.jobs) in
    c.loop-pair.invariant.onward c.status.result now
    (told_all (golden_for c.args.asked.now) c.args.printers.now.fleet.items
    (map (λ name. name.items) c.args.printers.now.names.items) (g.J.Jobs.start c.args.jobs.now) c.args.pairs.now
    c.loop-pair.pair-index c.loop-pair.ending c.status.result now c.loop-pair-test.false c.status.ensures
    c.loop-pair.invariant.working)
