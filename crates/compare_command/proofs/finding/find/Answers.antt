use Rattle.std.proofs.Common.{◌+◌, ◌++◌, ◌∷◌, List, [], append-nil, refl, subst, sym, ◌∙◌}
use Rattle.std.proofs.lemmas.Result.{err_from_is_err_and}
use Rattle.sinks.specs.declared.counts.Counts.{Counts}
use Rattle.streams.specs.Ended.{JobRead, job_read}
use Rattle.comparison.specs.declared.difference.Comparison.TheVariants.{Same}
use Rattle.compare_command.specs.declared.found.Outcome.TheVariants.{OfEvents}
use Rattle.compare_command.specs.Compare.{AreCompared, found_at}
use Rattle.compare_command.proofs.Compared.{ended_more, found_more, same_all, same_more, stopped_later}
use Rattle.compare_command.proofs.finding.find.Goals as goal

pub loop-index-init : goal.loop-index-init
loop-index-init g c = record {
  start = refl;
  grown = ([], sym (append-nil (g.J.Jobs.ended c.args.jobs.now)));
  onward = λ found ended h.
      subst
      (λ (counts : Counts). AreCompared c.args.manner (g.J.Jobs.start c.args.jobs.now) c.args.asked.now.old_name.now
      c.args.asked.now.new_name.now 1 c.args.fleet.now counts found (g.J.Jobs.ended c.args.jobs.now) ended)
      c.none-counts.ensures h;
}

pub loop-index-preserved : goal.loop-index-preserved
loop-index-preserved g c =
    let so_far = c.loop-index.invariant in
    let compared = c.in_ok-outcome.ensures.compared in
    let last : List JobRead =
    job_read c.args.asked.now.old_name.now compared.old_read ∷ job_read c.args.asked.now.new_name.now compared.new_read ∷ [] in
    record {
      start = c.compare_on.ensures.start ∙ so_far.start;
      grown = (
        so_far.grown.0 ++ last,
        ended_more (g.J.Jobs.ended c.args.jobs.now) (g.J.Jobs.ended c.loop-index.jobs) (g.J.Jobs.ended c.compare_on.new.jobs)
            so_far.grown.0 last so_far.grown.1 compared.ended_is,
      );
      onward = λ found ended h.
          so_far.onward found ended
          (same_more c.args.manner (g.J.Jobs.start c.args.jobs.now) (g.J.Jobs.start c.loop-index.jobs) so_far.start
          c.args.asked.now.old_name.now c.args.asked.now.new_name.now c.args.fleet.now c.loop-index.index
          c.index-fleet-index.result c.loop-index-test.true c.index-fleet-index.is c.loop-index.counts
          c.in_ok-outcome.outcome (g.J.Jobs.ended c.loop-index.jobs) (g.J.Jobs.ended c.compare_on.new.jobs)
          c.in_ok-outcome.ensures.compared c.in-Some.these c.first_counts-counts.result
          (sym c.same_counts-same.ensures ∙ c.in-Some.is) c.first_counts-counts.ensures found ended h);
    }

pub returns-in-None-clause-found : goal.returns-in-None-clause-found
returns-in-None-clause-found g c =
    let so_far = c.loop-index.invariant in
    so_far.onward (found_at (c.loop-index.index + 1) c.in_ok-outcome.outcome) (g.J.Jobs.ended c.compare_on.new.jobs)
    (found_more c.args.manner (g.J.Jobs.start c.args.jobs.now) (g.J.Jobs.start c.loop-index.jobs) so_far.start
    c.args.asked.now.old_name.now c.args.asked.now.new_name.now c.args.fleet.now c.loop-index.index
    c.index-fleet-index.result c.loop-index-test.true c.index-fleet-index.is c.loop-index.counts
    c.in_ok-outcome.outcome (g.J.Jobs.ended c.loop-index.jobs) (g.J.Jobs.ended c.compare_on.new.jobs)
    c.in_ok-outcome.ensures.compared (sym c.same_counts-same.ensures ∙ c.in-None.is))

pub returns-in_err-outcome-clause-stopped : goal.returns-in_err-outcome-clause-stopped
returns-in_err-outcome-clause-stopped g c =
    let same = err_from_is_err_and c.from_residual.result c.from_residual.ensures.1 in
    let so_far = c.loop-index.invariant in
    rw (same.1, same.2) (stopped_later so_far.grown.0 so_far.grown.1 c.in_err-outcome.ensures.stopped)

pub returns-clause-found : goal.returns-clause-found
returns-clause-found g c =
    c.loop-index.invariant.onward (found_at 1 (OfEvents (Same c.loop-index.counts))) (g.J.Jobs.ended c.loop-index.jobs)
    (same_all c.args.manner (g.J.Jobs.start c.args.jobs.now) c.args.asked.now.old_name.now c.args.asked.now.new_name.now
    c.args.fleet.now c.loop-index.index c.loop-index.counts (g.J.Jobs.ended c.loop-index.jobs) c.loop-index-test.false)
