use Rattle.std.proofs.Common.{IsFalse, ap, refl, subst, sym, ◌∙◌}
use Rattle.std.proofs.lemmas.Result.{err_from_is_err_and}
use Rattle.survey.proofs.Tallies.{stops_among, tallied_all, tallied_next}
use Rattle.survey.proofs.command.survey_all.Goals as goal

pub survey_next-requires : goal.survey_next-requires
survey_next-requires g c =
    λ k. (
      (refl, tt),
      subst (λ stderr. IsFalse (g.E.Outlet.state stderr).failed) (sym c.loop-number.invariant.quiet) c.requires,
    )

pub loop-number-init : goal.loop-number-init
loop-number-init g c = record { start = refl; quiet = refl; tallied = (refl, refl) }

pub loop-number-preserved : goal.loop-number-preserved
loop-number-preserved g c = record {
  start = c.survey_next.ensures.start ∙ c.loop-number.invariant.start;
  quiet = c.in_ok-survey_next.ensures.quiet ∙ c.loop-number.invariant.quiet;
  tallied =
      tallied_next (g.J.Jobs.start c.args.jobs.now) (g.J.Jobs.start c.loop-number.jobs) (λ name. name.now) c.args.names.now
      c.loop-number.number _ _ _ _ _ _ _ c.loop-number-test.true c.loop-number.invariant.start c.loop-number.invariant.tallied
      c.in_ok-survey_next.ensures.tallied;
}

pub returns-in_err-survey_next-clause-stopped : goal.returns-in_err-survey_next-clause-stopped
returns-in_err-survey_next-clause-stopped g c =
    let same = err_from_is_err_and c.from_residual.result c.from_residual.ensures.1 in
    rw (same.1, same.2)
    (stops_among (g.J.Jobs.start c.args.jobs.now) (λ name. name.now) c.args.names.now c.loop-number.number _ _ _ _ _ _ _ _ _ _
    c.loop-number-test.true (ap g.E.Outlet.state c.loop-number.invariant.quiet) c.loop-number.invariant.tallied
    c.in_err-survey_next.ensures.stopped)

pub returns-clause-tallied : goal.returns-clause-tallied
returns-clause-tallied g c =
    tallied_all (g.J.Jobs.start c.args.jobs.now) (λ name. name.now) c.args.names.now c.loop-number.number _ _ _ _
    c.loop-number-test.false c.loop-number.invariant.tallied

pub returns-clause-quiet : goal.returns-clause-quiet
returns-clause-quiet g c = c.loop-number.invariant.quiet
