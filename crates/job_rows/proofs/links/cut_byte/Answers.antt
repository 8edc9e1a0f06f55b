use Rattle.std.proofs.Common.{arith}
use Rattle.std.proofs.lemmas.List.{nil_from_length}
use Rattle.job_rows.proofs.FirstAndRest.{first_and_rest}
use Rattle.job_rows.proofs.links.cut_byte.Goals as goal

pub returns-in-empty-clause-cut : goal.returns-in-empty-clause-cut
returns-in-empty-clause-cut c = nil_from_length c.args.bytes.now (omega arith)

pub returns-in-len1-up-clause-cut : goal.returns-in-len1-up-clause-cut
returns-in-len1-up-clause-cut c = first_and_rest c.args.bytes.now 0 (omega arith)
