use Rattle.std.proofs.Common.{rules}
use Rattle.streams.proofs.OutletFacts.{AddsBefore-more}
use Rattle.streams.proofs.writing.write_text.Goals as goal

pub loop-rest-preserved : goal.loop-rest-preserved
loop-rest-preserved g c =
    (search rules, AddsBefore-more _ _ _ _ _ c.in-Ok.count c.loop-rest.invariant.1 c.in-Ok.ensures.taken.bytes)
