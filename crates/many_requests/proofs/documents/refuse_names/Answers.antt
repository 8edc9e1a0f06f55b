use Rattle.std.proofs.Common.{sym}
use Rattle.many_requests.proofs.documents.refuse_names.Goals as goal

pub returns-in-None-clause-apart : goal.returns-in-None-clause-apart
returns-in-None-clause-apart g c = sym c.in-None.ensures

pub returns-in-Some-clause-refused : goal.returns-in-Some-clause-refused
returns-in-Some-clause-refused g c = c.refuse_name.ensures (sym c.in-Some.ensures)
