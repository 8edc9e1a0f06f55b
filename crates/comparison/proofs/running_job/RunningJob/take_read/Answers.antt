use Rattle.std.proofs.Common.{arith}
use Rattle.std.proofs.lemmas.Bool.Decides.{nat_tests}
use Rattle.std.proofs.lemmas.List.{nil_from_length}
use Rattle.comparison.proofs.Running.{read_ended, read_taken}
use Rattle.comparison.proofs.running_job.RunningJob.take_read.Goals as goal

pub returns-then-is_empty-clause-taken : goal.returns-then-is_empty-clause-taken
returns-then-is_empty-clause-taken g c =
    read_ended c.args.piece.now c.args.self.now c.take_end.new.self
    (nil_from_length c.args.piece.now (grind (arith, nat_tests, c.is_empty.ensures, c.if-is_empty.true))) c.take_end.ensures.ended

pub returns-clause-taken : goal.returns-clause-taken
returns-clause-taken g c = read_taken c.args.piece.now c.args.self.now c.take_piece.new.self c.take_piece.result c.take_piece.ensures.fed
