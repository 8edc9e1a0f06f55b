use Rattle.many_requests.proofs.folders.tell_folder.Goals as goal

pub returns-in-Some : goal.returns-in-Some
returns-in-Some g c = (_, c.tell_cause.ensures)

pub returns-in-None : goal.returns-in-None
returns-in-None g c = (_, c.tell_cause-in-None.ensures)
