use Rattle.std.proofs.Common.{◌≡◌, map, take}
use Rattle.survey.specs.Command.{AreTallied}
use Rattle.survey.proofs.command.survey_all.Given as goal

abbrev pub invariant-loop-number : goal.invariant-loop-number
invariant-loop-number g l = record {
  start : g.J.Jobs.start l.jobs ≡ g.J.Jobs.start l.initial.jobs;
  quiet : l.stderr ≡ l.initial.stderr;
  tallied : AreTallied (g.J.Jobs.start l.initial.jobs) (map (λ name. name.now) (take l.number l.names))
      (g.J.Jobs.ended l.initial.jobs) (g.J.Jobs.ended l.jobs) 0 l.initial.surveyor.tally l.surveyor.tally;
}
