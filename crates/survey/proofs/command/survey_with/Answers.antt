use Rattle.std.proofs.Common.{ap, inr, map, refl}
use Rattle.survey.proofs.Tallies.{stopped_of_none, survey_left}
use Rattle.survey.proofs.command.survey_with.Goals as goal

pub returns-in-Ok : goal.returns-in-Ok
returns-in-Ok g c =
    survey_left c.args.form (map (λ name. name.now) c.args.names.now) (g.J.Jobs.start c.args.jobs.now) c.write_survey.result _ _ _ _ _ _
    c.args.surveyor.now.tally c.survey_all.new.surveyor.tally c.table.result.now c.requires.begun c.table.ensures c.in-Ok.ensures.tallied
    c.write_survey.ensures (ap g.E.Outlet.state c.in-Ok.ensures.quiet)

pub returns-in-Err : goal.returns-in-Err
returns-in-Err g c =
    inr (
      stopped_of_none (g.J.Jobs.start c.args.jobs.now) (map (λ name. name.now) c.args.names.now) c.args.surveyor.now.tally _ _ _ _ _
          c.requires.begun c.in-Err.ensures.stopped,
      refl,
    )
