use Rattle.std.proofs.Common.{◌≡◌, ap, subst, sym, true, ◌∙◌}
use Rattle.comparison.specs.Running.{RunState, TakesWork, is_open}
use Rattle.comparison.specs.Together.{CountsBy}
use Rattle.comparison.proofs.Running.{runs_after, stepped_run, waits_counted, work_taken}
use Rattle.comparison.proofs.Partings.{counted}
use Rattle.comparison.proofs.running_job.RunningJob.count_next.Goals as goal

pub step-stepped-requires-clause-running : goal.step-stepped-requires-clause-running
step-stepped-requires-clause-running g c =
    (c.self.invariant (ap (λ (s : RunState). is_open s.progress) c.self.view_is ∙ c.requires.running)).0

pub step-stepped-requires-clause-mode : goal.step-stepped-requires-clause-mode
step-stepped-requires-clause-mode g c =
    (c.self.invariant (ap (λ (s : RunState). is_open s.progress) c.self.view_is ∙ c.requires.running)).1

pub invariant_of-self : goal.invariant_of-self
invariant_of-self g c = λ running.
    let l = c.self.inside in
    let ready = c.self.invariant (ap (λ (s : RunState). is_open s.progress) c.self.view_is ∙ c.requires.running) in
    let came = c.step-stepped.ensures.came in
    let stands =
    runs_after c.step-stepped.result l.lexer c.step-stepped.new.lexer c.step-stepped.new.machine came.events
    (sym (ap is_open c.progress_after-self-inside.ensures) ∙ running) came.leaves in
    (stands.0, stands.1, c.step-stepped.ensures.place ∙ ready.2, ready.3, ready.4)

pub returns-clause-counted : goal.returns-clause-counted
returns-clause-counted g c =
    let l = c.self.inside in
    let fields : RunState = record {
      lexer = l.lexer;
      machine = l.machine;
      events = l.recorder.events;
      place = l.place;
      total = l.total;
      reads = l.reads;
      number = l.number;
      progress = l.progress;
    } in
    subst
    (λ (s : RunState). CountsBy c.step-stepped.result s (stepped_run fields c.step-stepped.new.lexer c.step-stepped.new.machine
    l.recorder.events c.place_after-self-inside.result c.progress_after-self-inside.result) c.args.spot.now c.step-stepped.new.sink)
    c.self.view_is
    (counted fields c.step-stepped.new.lexer c.step-stepped.new.machine l.recorder.events
    (ap (λ (s : RunState). is_open s.progress) c.self.view_is ∙ c.requires.running) c.step-stepped.ensures.ended c.args.spot.now
    c.step-stepped.new.sink c.step-stepped.result c.place_after-self-inside.result c.progress_after-self-inside.result
    c.place_after-self-inside.ensures c.progress_after-self-inside.ensures c.step-stepped.ensures.came)

pub returns-clause-waits : goal.returns-clause-waits
returns-clause-waits g c = λ more.
    let l = c.self.inside in
    let fields : RunState = record {
      lexer = l.lexer;
      machine = l.machine;
      events = l.recorder.events;
      place = l.place;
      total = l.total;
      reads = l.reads;
      number = l.number;
      progress = l.progress;
    } in
    waits_counted fields c.step-stepped.new.lexer c.step-stepped.new.machine c.step-stepped.ensures.came.events l.recorder.events
    c.place_after-self-inside.result c.progress_after-self-inside.result c.step-stepped.result c.progress_after-self-inside.ensures
    c.step-stepped.ensures.came.leaves (ap (λ (s : RunState). s.events) c.self.view_is ∙ c.requires.none) more

pub returns-clause-less : goal.returns-clause-less
returns-clause-less g c =
    let l = c.self.inside in
    let fields : RunState = record {
      lexer = l.lexer;
      machine = l.machine;
      events = l.recorder.events;
      place = l.place;
      total = l.total;
      reads = l.reads;
      number = l.number;
      progress = l.progress;
    } in
    subst
    (λ (s : RunState). TakesWork c.step-stepped.result s (stepped_run fields c.step-stepped.new.lexer c.step-stepped.new.machine
    l.recorder.events c.place_after-self-inside.result c.progress_after-self-inside.result))
    c.self.view_is
    (work_taken fields c.step-stepped.new.lexer c.step-stepped.new.machine c.step-stepped.ensures.came.events l.recorder.events
    c.place_after-self-inside.result c.progress_after-self-inside.result
    (ap (λ (s : RunState). is_open s.progress) c.self.view_is ∙ c.requires.running) c.step-stepped.result
    c.progress_after-self-inside.ensures c.step-stepped.ensures.came.leaves)

pub returns-clause-none : goal.returns-clause-none
returns-clause-none g c = ap (λ (s : RunState). s.events) c.self.view_is ∙ c.requires.none

pub returns-clause-number : goal.returns-clause-number
returns-clause-number g c = ap (λ (s : RunState). s.number) c.self.view_is
