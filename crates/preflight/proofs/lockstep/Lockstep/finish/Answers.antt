use Rattle.std.proofs.Common.{◌∷◌, List, sym, subst}
use Rattle.page_machine.specs.MachineState.{MachineState}
use Rattle.preflight.specs.Carriers.Each.{Each}
use Rattle.preflight.specs.Carriers.FleetMode.{others_in}
use Rattle.preflight.specs.Carriers.Lockstep.{Does, Finish, Fleet, GoesInStep, machines_of}
use Rattle.preflight.specs.CheckState.{StandsBy}
use Rattle.preflight.proofs.Answered.{end_admitted}
use Rattle.preflight.proofs.Executing.{as_one_in_step}
use Rattle.preflight.proofs.lockstep.Lockstep.finish.Goals as goal

pub execute_on_each-requires-clause-admitted : goal.execute_on_each-requires-clause-admitted
execute_on_each-requires-clause-admitted g c = end_admitted (machines_of c.args.self.now)

pub returns-in-Alone-clause-came : goal.returns-in-Alone-clause-came
returns-in-Alone-clause-came g c =
    let before = c.self.inside in
    let others : List MachineState = before.others.items in
    let first = c.finish-answer.new.self in
    subst
    (λ (f : Fleet). StandsBy c.judge.new.self (λ failed.
    GoesInStep Finish c.args.place f.machines (first ∷ others_in before.fleet_mode first others) f.counts c.finish-answer.new.sink failed))
    c.self.view_is
    (as_one_in_step Finish c.args.place before.fleet_mode before.counts c.finish-answer.new.sink before.first first others
    (λ events does. subst
    (λ fleet_mode.
    Each (Does Finish events) (before.first ∷ others_in fleet_mode before.first others) (first ∷ others_in fleet_mode first others))
    (sym c.in-Alone.is) (does, tt))
    c.finish-answer.result c.judge.new.self c.judge.ensures.standing c.finish-answer.ensures)
