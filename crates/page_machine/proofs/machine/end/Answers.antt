use Rattle.std.proofs.Common.{sym, ◌∙◌}
use Rattle.page_machine.specs.MachineState.{MachineState}
use Rattle.page_machine.specs.Machine.{fields_of}
use Rattle.page_machine.proofs.Answering.{carried_end, end-is_refused, end-is_carried, Carries-is, Carries-found, Carries-done}
use Rattle.page_machine.proofs.Answering.{Carries-halted}
use Rattle.page_machine.proofs.machine.end.Goals as goal

pub returns-then-is_open : goal.returns-then-is_open
returns-then-is_open g c =
    let machine : MachineState = fields_of c.args.profile.now c.args.defaults.now c.args.page.now c.args.macros.now in
    Carries-found _ _ _ _ _ _ _ _ (end-is_refused machine (sym c.is_open.ensures ∙ c.if-is_open.true))

pub returns-in-Ok : goal.returns-in-Ok
returns-in-Ok g c =
    let machine : MachineState = fields_of c.args.profile.now c.args.defaults.now c.args.page.now c.args.macros.now in
    Carries-is _ _ _ _ _ _ (carried_end machine) _ _ _ (end-is_carried machine (sym c.is_open.ensures ∙ c.if-is_open.false))
    (Carries-done _ _ _ _ _ _ (carried_end machine) _ _ _ (c.in-Ok.ensures 1) c.clear.ensures)

pub returns-in-Err : goal.returns-in-Err
returns-in-Err g c =
    let machine : MachineState = fields_of c.args.profile.now c.args.defaults.now c.args.page.now c.args.macros.now in
    rw c.stop_of.ensures
    (Carries-is _ _ _ _ _ _ (carried_end machine) _ _ _ (end-is_carried machine (sym c.is_open.ensures ∙ c.if-is_open.false))
    (Carries-halted _ _ _ _ _ _ (carried_end machine) _ _ (c.in-Err.ensures 1)))
