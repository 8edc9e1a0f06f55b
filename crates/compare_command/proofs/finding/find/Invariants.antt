use Rattle.std.proofs.Common.{◌≡◌, ◌+◌, ◌++◌, List, drop}
use Rattle.sinks.specs.Counts.{no_counts}
use Rattle.streams.specs.Ended.{JobRead}
use Rattle.compare_command.specs.declared.found.Found.{Found}
use Rattle.compare_command.specs.Compare.{AreCompared}
use Rattle.compare_command.proofs.finding.find.Given as goal

-- what is found from here on is what is found of all; so far jobs were ended behind those before
abbrev pub invariant-loop-index : goal.invariant-loop-index
invariant-loop-index g l = record {
  start : g.J.Jobs.start l.jobs ≡ g.J.Jobs.start l.initial.jobs;
  grown : (earlier : List JobRead) × (g.J.Jobs.ended l.jobs ≡ g.J.Jobs.ended l.initial.jobs ++ earlier);
  onward : (found : Found) (ended : List JobRead) →
      AreCompared l.manner (g.J.Jobs.start l.initial.jobs) l.asked.old_name.now l.asked.new_name.now (l.index + 1) (drop l.index l.fleet)
      l.counts found (g.J.Jobs.ended l.jobs) ended →
      AreCompared l.manner (g.J.Jobs.start l.initial.jobs) l.asked.old_name.now l.asked.new_name.now 1 l.fleet no_counts found
      (g.J.Jobs.ended l.initial.jobs) ended;
}
