use Rattle.std.proofs.Common.{◌≡◌, ◌≤◌, IsFalse, List, length}
use Rattle.device_profile.specs.declared.panel.Panel.{Panel}
use Rattle.device_profile.specs.Printer.{Printer}
use Rattle.streams.specs.Source.{SourceState}
use Rattle.comparison.specs.Comparing.{HasFollowed}
use Rattle.comparison.specs.Comparison.{Made}
use Rattle.page_comparison.specs.Pages.{made_page}
use Rattle.page_comparison.specs.Reading.{Collects}
use Rattle.page_comparison.proofs.reading.fill_page.Given as goal

abbrev pub invariant-loop : goal.invariant-loop
invariant-loop g l = record {
  working : IsFalse (g.S.Source.state l.source).failed;
  number : l.job.run.number ≡ l.initial.job.run.number;
  few : length (made_page l.page).marks ≤ l.counter;
  collects : (printer : Printer) (panel : Panel) (first : SourceState) (taken : List Made) →
      HasFollowed printer panel first (g.S.Source.state l.initial.source) taken l.initial.job →
      Collects printer panel first (g.S.Source.state l.source) taken l.job (made_page l.page);
}
