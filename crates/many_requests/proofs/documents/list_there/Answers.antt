use Rattle.many_requests.proofs.documents.list_there.Goals as goal

pub returns-then-is_same_file-clause-found : goal.returns-then-is_same_file-clause-found
returns-then-is_same_file-clause-found g c = c.is_same_file.ensures.told c.if-is_same_file.true

pub returns-clause-found : goal.returns-clause-found
returns-clause-found g c = c.is_same_file.ensures.quiet c.if-is_same_file.false
