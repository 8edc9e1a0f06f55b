use Rattle.std.proofs.Common.{ap, subst, sym, ◌∙◌}
use Rattle.sinks.specs.Recorder.{Recorded}
use Rattle.comparison.specs.Running.{HasRun, RunState, TakesWork, is_open}
use Rattle.comparison.proofs.Carried.{came_recorded, leaves_recorded}
use Rattle.comparison.proofs.Running.{advanced, runs_after, stepped_run, waits_now, work_taken}
use Rattle.comparison.proofs.running_job.RunningJob.advance.Goals as goal

pub step-stepped-requires-clause-running : goal.step-stepped-requires-clause-running
step-stepped-requires-clause-running g c =
    (c.self.invariant (ap (λ (s : RunState). is_open s.progress) c.self.view_is ∙ c.requires)).0

pub step-stepped-requires-clause-mode : goal.step-stepped-requires-clause-mode
step-stepped-requires-clause-mode g c =
    (c.self.invariant (ap (λ (s : RunState). is_open s.progress) c.self.view_is ∙ c.requires)).1

pub invariant_of-self : goal.invariant_of-self
invariant_of-self g c = λ running.
    let l = c.self.inside in
    let ready = c.self.invariant (ap (λ (s : RunState). is_open s.progress) c.self.view_is ∙ c.requires) in
    let stands =
    runs_after c.step-stepped.result l.lexer c.step-stepped.new.lexer c.step-stepped.new.machine c.step-stepped.new.sink.events
    (sym (ap is_open c.progress_after-self-inside.ensures) ∙ running) (leaves_recorded l.number l.total l.lexer l.machine
    c.step-stepped.result c.step-stepped.new.lexer c.step-stepped.new.machine
    c.clear.new.self c.step-stepped.new.sink (ap (λ (r : Recorded). r.events) c.clear.ensures) c.step-stepped.ensures.came) in
    (stands.0, stands.1, c.step-stepped.ensures.place ∙ ready.2, ready.3, ready.4)

pub returns-clause-came : goal.returns-clause-came
returns-clause-came g c = λ printer panel first now made h.
    let l = c.self.inside in
    let fields : RunState = record {
      lexer = l.lexer;
      machine = l.machine;
      events = l.recorder.events;
      place = l.place;
      total = l.total;
      reads = l.reads;
      number = l.number;
      progress = l.progress;
    } in
    advanced fields c.step-stepped.new.lexer c.step-stepped.new.machine c.step-stepped.new.sink.events
    (ap (λ (s : RunState). is_open s.progress) c.self.view_is ∙ c.requires) c.step-stepped.ensures.ended printer panel first now made
    (subst (λ (s : RunState). HasRun printer panel first now made s) (sym c.self.view_is) h) c.step-stepped.result
    c.place_after-self-inside.result c.progress_after-self-inside.result c.place_after-self-inside.ensures
    c.progress_after-self-inside.ensures (came_recorded l.number l.total l.lexer l.machine c.step-stepped.result c.step-stepped.new.lexer
    c.step-stepped.new.machine
    c.clear.new.self c.step-stepped.new.sink (ap (λ (r : Recorded). r.events) c.clear.ensures) c.step-stepped.ensures.came)
    (leaves_recorded l.number l.total l.lexer l.machine c.step-stepped.result c.step-stepped.new.lexer c.step-stepped.new.machine
    c.clear.new.self c.step-stepped.new.sink (ap (λ (r : Recorded). r.events) c.clear.ensures) c.step-stepped.ensures.came)

pub returns-clause-waits : goal.returns-clause-waits
returns-clause-waits g c = λ more.
    let l = c.self.inside in
    let fields : RunState = record {
      lexer = l.lexer;
      machine = l.machine;
      events = l.recorder.events;
      place = l.place;
      total = l.total;
      reads = l.reads;
      number = l.number;
      progress = l.progress;
    } in
    waits_now fields c.step-stepped.new.lexer c.step-stepped.new.machine c.step-stepped.new.sink.events c.place_after-self-inside.result
    c.progress_after-self-inside.result c.step-stepped.result c.progress_after-self-inside.ensures (leaves_recorded l.number l.total
    l.lexer l.machine c.step-stepped.result c.step-stepped.new.lexer c.step-stepped.new.machine
    c.clear.new.self c.step-stepped.new.sink (ap (λ (r : Recorded). r.events) c.clear.ensures) c.step-stepped.ensures.came) more

pub returns-clause-less : goal.returns-clause-less
returns-clause-less g c =
    let l = c.self.inside in
    let fields : RunState = record {
      lexer = l.lexer;
      machine = l.machine;
      events = l.recorder.events;
      place = l.place;
      total = l.total;
      reads = l.reads;
      number = l.number;
      progress = l.progress;
    } in
    subst
    (λ (s : RunState). TakesWork c.step-stepped.result s (stepped_run fields c.step-stepped.new.lexer c.step-stepped.new.machine
    c.step-stepped.new.sink.events c.place_after-self-inside.result c.progress_after-self-inside.result))
    c.self.view_is
    (work_taken fields c.step-stepped.new.lexer c.step-stepped.new.machine c.step-stepped.new.sink.events
    c.step-stepped.new.sink.events c.place_after-self-inside.result c.progress_after-self-inside.result
    (ap (λ (s : RunState). is_open s.progress) c.self.view_is ∙ c.requires) c.step-stepped.result
    c.progress_after-self-inside.ensures (leaves_recorded l.number l.total l.lexer l.machine c.step-stepped.result
    c.step-stepped.new.lexer c.step-stepped.new.machine
    c.clear.new.self c.step-stepped.new.sink (ap (λ (r : Recorded). r.events) c.clear.ensures) c.step-stepped.ensures.came))

pub returns-clause-number : goal.returns-clause-number
returns-clause-number g c = ap (λ (s : RunState). s.number) c.self.view_is
