use Rattle.std.proofs.Common.{◌∙◌}
use Rattle.many_requests.proofs.LookFacts.{found_behind}
use Rattle.many_requests.proofs.looks.first_same.Goals as goal

pub loop-word-preserved : goal.loop-word-preserved
loop-word-preserved g c = c.is_same_file.ensures.quiet c.if-is_same_file.false ∙ c.loop-word.invariant

pub returns-then-is_same_file-clause-found : goal.returns-then-is_same_file-clause-found
returns-then-is_same_file-clause-found g c =
    found_behind _ c.args.used.now c.loop-word.used c.is_same_file.new.self c.loop-word.invariant
    (c.is_same_file.ensures.told c.if-is_same_file.true)

pub returns-clause-found : goal.returns-clause-found
returns-clause-found g c = c.loop-word.invariant
