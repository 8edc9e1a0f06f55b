use Rattle.std.proofs.Common.{refl}
use Rattle.preflight.proofs.Answered.{all_admit_next, item_takes}
use Rattle.preflight.proofs.FormsInStep.{none_kept}
use Rattle.preflight.proofs.Loops.{goes_none, item_behind}
use Rattle.preflight.proofs.checking.Checking.execute_line_end.Goals as goal

pub returns-in_default-clause-none : goal.returns-in_default-clause-none
returns-in_default-clause-none g c = λ i. record c.args.self.now { lexer = c.in_default.ensures.none i }

pub step_line_end-requires-clause-admitted : goal.step_line_end-requires-clause-admitted
step_line_end-requires-clause-admitted g c = all_admit_next _ _ _ c.in-Some.ensures.line_end _ _ refl _ c.requires.may.modes

pub returns-clause-executed : goal.returns-clause-executed
returns-clause-executed g c =
    let next = c.in-Some.ensures.line_end in
    let step = c.step_line_end.ensures in
    record {
      executes =
          item_behind _ _ _ _ c.requires.one c.requires.watched _ _ _ refl (goes_none _ c.requires.may) next step.open step.told
          step.untold step.came;
      less = λ yes. item_takes _ _ _ next _ _ refl;
      knows = λ yes. record { forms = none_kept _ _ c.forget_bounds.ensures; measures = none_kept _ _ c.forget_measure.ensures };
    }
