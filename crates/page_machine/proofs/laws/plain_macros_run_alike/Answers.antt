use Rattle.page_machine.proofs.PlainMacros.{leaves_each, plain_alike}
use Rattle.page_machine.proofs.laws.plain_macros_run_alike.Goals as goal

pub returns-clause-alike : goal.returns-clause-alike
returns-clause-alike c = plain_alike c.items_go_on_like_printers.ensures.items

pub returns-clause-leaves : goal.returns-clause-leaves
returns-clause-leaves c = leaves_each
