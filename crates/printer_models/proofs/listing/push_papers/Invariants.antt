use Rattle.std.proofs.Common.{◌≡◌, ◌++◌, take}
use Rattle.printer_models.specs.Listing.{paper_words}
use Rattle.printer_models.proofs.listing.push_papers.Given as goal

abbrev pub invariant-loop-paper : goal.invariant-loop-paper
invariant-loop-paper g l = l.text.items ≡ l.initial.text.items ++ paper_words (take l.paper-index l.papers)
