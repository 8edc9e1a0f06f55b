use Rattle.std.proofs.Common.{◌<◌, length, arith, drop_of_length-le, subst, sym}
use Rattle.survey.specs.declared.step.Step.{Step}
use Rattle.survey.specs.Survey.{Passes}
use Rattle.survey.specs.Carriers.Steps.{IsStep}
use Rattle.survey.proofs.Steps.{empty_step, passed_made}
use Rattle.survey.proofs.step.pass_at.Goals as goal

pub returns-then-start-window : goal.returns-then-start-window
returns-then-start-window c = λ whole.
    subst (λ (s : Step). IsStep whole (Passes c.args.part) c.args.dropped c.args.start c.args.window.now s) (sym c.waiting.ensures)
    (empty_step whole c.args.part c.args.dropped c.args.start c.args.window.now c.requires.inside
    (drop_of_length-le c.args.window.now (omega arith)))

pub returns : goal.returns
returns c = λ whole.
    let within : c.args.start < length c.args.window.now = omega arith in
    passed_made whole c.args.part c.args.dropped c.args.start c.args.window.now c.of.result c.pass-next.result c.taken.result within
    c.pass-next.ensures c.taken.ensures.bytes c.of.ensures
