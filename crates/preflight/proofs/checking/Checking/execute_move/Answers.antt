use Rattle.std.proofs.Common.{refl}
use Rattle.preflight.proofs.Answered.{all_admit_next, item_takes}
use Rattle.preflight.proofs.Loops.{goes_none, item_behind}
use Rattle.preflight.proofs.checking.Checking.execute_move.Goals as goal

pub returns-in_default-clause-none : goal.returns-in_default-clause-none
returns-in_default-clause-none g c = λ i. record c.args.self.now { lexer = c.in_default.ensures.none i }

pub returns-in_default-clause-knows : goal.returns-in_default-clause-knows
returns-in_default-clause-knows g c = c.requires.knows

pub step_known-requires-clause-admitted : goal.step_known-requires-clause-admitted
step_known-requires-clause-admitted g c = all_admit_next _ _ _ c.in-Some.ensures.command _ _ refl _ c.requires.may.modes

pub step_known-requires-clause-known : goal.step_known-requires-clause-known
step_known-requires-clause-known g c = c.requires.knows.forms

pub step_known-requires-clause-measured : goal.step_known-requires-clause-measured
step_known-requires-clause-measured g c = c.requires.knows.measures

pub returns-clause-executed : goal.returns-clause-executed
returns-clause-executed g c =
    let next = c.in-Some.ensures.command in
    let step = c.step_known.ensures in
    record {
      executes =
          item_behind _ _ _ _ c.requires.one c.requires.watched _ _ _ refl (goes_none _ c.requires.may) next step.open step.told
          step.untold step.came;
      less = λ yes. item_takes _ _ _ next _ _ refl;
      knows = λ yes. record { forms = step.known yes; measures = step.measured yes };
    }
