use Rattle.std.proofs.Common.{subst, sym}
use Rattle.survey.specs.declared.step.Standing as code_standing
use Rattle.survey.specs.Carriers.Steps.{IsStep, standing_view}
use Rattle.survey.proofs.step.step_at.Goals as goal

pub returns-in-Reads : goal.returns-in-Reads
returns-in-Reads c =
    let window = c.args.window.now in
    subst (λ (s : code_standing.Standing). IsStep c.args.whole (standing_view s) c.args.dropped c.args.start window c.read_at.result)
    (sym c.in-Reads.is) c.read_at.ensures

pub returns-in-Passes : goal.returns-in-Passes
returns-in-Passes c =
    let window = c.args.window.now in
    subst (λ (s : code_standing.Standing). IsStep c.args.whole (standing_view s) c.args.dropped c.args.start window c.pass_at.result)
    (sym c.in-Passes.is) (c.pass_at.ensures c.args.whole)
