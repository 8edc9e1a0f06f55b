use Rattle.std.proofs.Common.{◌≡◌, ◌<◌, ◌++◌, true, ap, subst, sym, take, ◌∙◌}
use Rattle.pcl_lexer.specs.Lexing.Passing.{ahead_of}
use Rattle.page_env.specs.declared.text_lines.TextAppearance.{TextAppearance}
use Rattle.page_env.specs.declared.text_lines.TextPlace.{TextPlace}
use Rattle.page_machine.specs.TextLines.{PrintsLines}
use Rattle.sinks.proofs.TextLines.{lines_of}
use Rattle.sinks.specs.Recorder.{Recorded}
use Rattle.comparison.specs.Running.{HasRun, RunState, is_open, work}
use Rattle.comparison.specs.Texts.{GoNext, codes_ahead, text_made}
use Rattle.comparison.proofs.SameLines.{lines_ready, lines_run, lines_take_work, passed_run}
use Rattle.comparison.proofs.running_job.RunningJob.pass_lines.Given.{Over}
use Rattle.comparison.proofs.running_job.RunningJob.pass_lines.Goals.{After-pass_lines-2}
use Rattle.comparison.proofs.running_job.RunningJob.pass_lines.Goals as goal

pub pass_lines-requires-2-clause-some : goal.pass_lines-requires-2-clause-some
pass_lines-requires-2-clause-some g c =
    (subst (GoNext c.requires.next.0 c.requires.next.1 c.args.lines.now) (sym c.self.view_is) c.requires.next.2).some

pub pass_lines-requires-2-clause-ahead : goal.pass_lines-requires-2-clause-ahead
pass_lines-requires-2-clause-ahead g c =
    (subst (GoNext c.requires.next.0 c.requires.next.1 c.args.lines.now) (sym c.self.view_is) c.requires.next.2).ahead

pub pass_lines-requires-2-clause-lines : goal.pass_lines-requires-2-clause-lines
pass_lines-requires-2-clause-lines g c =
    let l = c.self.inside in
    let look = c.requires.next.0 in
    let from = c.requires.next.1 in
    let next = subst (GoNext look from c.args.lines.now) (sym c.self.view_is) c.requires.next.2 in
    lines_of l.machine.printer (take c.args.lines.now.count (ahead_of l.lexer)) look from l.machine.page next.go.go

-- behind both
module _ (g : Over) (c : After-pass_lines-2 g) where
  abbrev before : RunState
  before = record {
    lexer = c.self.inside.lexer;
    machine = c.self.inside.machine;
    events = c.self.inside.recorder.events;
    place = c.self.inside.place;
    total = c.self.inside.total;
    reads = c.self.inside.reads;
    number = c.self.inside.number;
    progress = c.self.inside.progress;
  }

  goes : (look : TextAppearance) (from : TextPlace) → GoNext look from c.args.lines.now c.args.self.now →
      GoNext look from c.args.lines.now before
  goes look from = subst (GoNext look from c.args.lines.now) (sym c.self.view_is)

  prints : (look : TextAppearance) (from : TextPlace) → GoNext look from c.args.lines.now before →
      PrintsLines look from (codes_ahead c.args.lines.now before) c.self.inside.machine c.pass_lines.new.self
  prints look from next = c.pass_lines.ensures look from (codes_ahead c.args.lines.now before) next.no_definition next.go

  running : is_open before.progress ≡ true
  running = ap (λ (s : RunState). is_open s.progress) c.self.view_is ∙ c.requires.running

pub invariant_of-self : goal.invariant_of-self
invariant_of-self g c = λ _.
    let l = c.self.inside in
    let look = c.requires.next.0 in
    let from = c.requires.next.1 in
    let next = goes g c look from c.requires.next.2 in
    let ready = c.self.invariant (running g c) in
    lines_ready (before g c) c.pass_lines-2.new.self c.pass_lines.new.self c.clear.new.self.events c.args.lines.now look from next
    c.pass_lines-2.ensures (prints g c look from next) (running g c) ready.0 ready.1 ready.2 ready.3 ready.4

pub returns-clause-passed : goal.returns-clause-passed
returns-clause-passed g c = λ look from go printer panel first now made h.
    let next = goes g c look from go in
    let ready = c.self.invariant (running g c) in
    subst
    (λ (s : RunState). HasRun printer panel first now (made ++ text_made look from s.lexer.place (codes_ahead c.args.lines.now s))
    (passed_run (before g c) c.pass_lines-2.new.self c.pass_lines.new.self c.clear.new.self.events c.args.lines.now look from next
    c.pass_lines-2.ensures (prints g c look from next) (running g c) ready.0 ready.1))
    c.self.view_is
    (lines_run (before g c) c.pass_lines-2.new.self c.pass_lines.new.self c.clear.new.self.events c.args.lines.now look from next
    c.pass_lines-2.ensures (prints g c look from next) (running g c) ready.0 ready.1 printer panel first now made
    (subst (λ (s : RunState). HasRun printer panel first now made s) (sym c.self.view_is) h))

pub returns-clause-less : goal.returns-clause-less
returns-clause-less g c =
    let look = c.requires.next.0 in
    let from = c.requires.next.1 in
    let next = goes g c look from c.requires.next.2 in
    let ready = c.self.invariant (running g c) in
    subst
    (λ (s : RunState). work
    (passed_run (before g c) c.pass_lines-2.new.self c.pass_lines.new.self c.clear.new.self.events c.args.lines.now look from next
    c.pass_lines-2.ensures (prints g c look from next) (running g c) ready.0 ready.1)
    < work s)
    c.self.view_is
    (lines_take_work (before g c) c.pass_lines-2.new.self c.pass_lines.new.self c.clear.new.self.events c.args.lines.now look from next
    c.pass_lines-2.ensures (prints g c look from next) (running g c) ready.0 ready.1)

pub returns-clause-none : goal.returns-clause-none
returns-clause-none g c = ap (λ (r : Recorded). r.events) c.clear.ensures

pub returns-clause-number : goal.returns-clause-number
returns-clause-number g c = ap (λ (s : RunState). s.number) c.self.view_is
