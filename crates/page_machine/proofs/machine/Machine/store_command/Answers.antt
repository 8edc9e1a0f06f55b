use Rattle.page_machine.proofs.machine.Machine.store_command.Goals as goal

pub returns : goal.returns
returns g c = c.store.ensures
