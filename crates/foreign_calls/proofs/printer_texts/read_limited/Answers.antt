use Rattle.foreign_calls.proofs.printer_texts.read_limited.Goals as goal

pub returns-in-Ok-clause-printer : goal.returns-in-Ok-clause-printer
returns-in-Ok-clause-printer g c = (c.in-Ok.printer, c.in-Ok.ensures.printer, c.limited.ensures)
