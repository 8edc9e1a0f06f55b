use Rattle.std.proofs.Common.{◌≡◌, IsFalse, false}
use Rattle.page_comparison.specs.Reading.{GoesOn}
use Rattle.page_comparison.proofs.compare.compare_all.Given as goal

abbrev pub invariant-loop-page : goal.invariant-loop-page
invariant-loop-page g l = record {
  old_working : IsFalse (g.S.Source.state l.old_job).failed;
  new_working : IsFalse (g.T.Source.state l.new_job).failed;
  old_number : l.first.run.number ≡ l.initial.first.run.number;
  new_number : l.second.run.number ≡ l.initial.second.run.number;
  idle : l.listing.differs ≡ false;
  goes : GoesOn l.nearness l.fn.most (g.S.Source.state l.initial.old_job) (g.S.Source.state l.old_job)
      (g.T.Source.state l.initial.new_job) (g.T.Source.state l.new_job) l.initial.first l.first l.initial.second l.second l.page
      l.listing l.counts;
}
