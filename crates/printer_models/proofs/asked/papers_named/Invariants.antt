use Rattle.std.proofs.Common.{◌≡◌, [], drop, length, map}
use Rattle.printer_models.specs.Asked.{papers_from}
use Rattle.printer_models.proofs.asked.papers_named.Given as goal

abbrev pub invariant-loop-index : goal.invariant-loop-index
invariant-loop-index g l =
    (papers_from l.model l.papers.items (map (λ word. word.now) (drop l.index l.words))
    ≡ papers_from l.model [] (map (λ word. word.now) l.words))
    × (length l.papers.items ≡ l.index)
