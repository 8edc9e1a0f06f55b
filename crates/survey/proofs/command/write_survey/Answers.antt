use Rattle.std.proofs.Common.{List, ℕ, subst, ◌∙◌}
use Rattle.survey.specs.Command.{WritesSurvey}
use Rattle.survey.proofs.command.write_survey.Goals as goal

pub returns : goal.returns
returns g c =
    subst
    (λ (text : List ℕ). WritesSurvey text c.write_whole.result (g.O.Outlet.state c.args.stdout.now)
    (g.O.Outlet.state c.write_whole.new.stdout))
    (c.as_slice.ensures.value ∙ c.in-Ok.ensures) c.write_whole.ensures
