use Rattle.std.proofs.Common.{rules}
use Rattle.requests.proofs.Writing.{Writes-refusal}
use Rattle.requests.proofs.status.write_refusal.Goals as goal

pub returns : goal.returns
returns g c =
    Writes-refusal _ _ c.args.number c.args.line c.args.cause c.as_bytes.result.now c.as_bytes-2.result.now c.cause_name.result.now
    (search rules) (search rules) c.cause_name.ensures c.write_pieces.ensures
