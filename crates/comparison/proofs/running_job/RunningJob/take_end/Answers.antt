use Rattle.std.proofs.Common.{◌+◌, ◌<◌, ◌^◌, ap, arith, length, subst, sym, ◌∙◌}
use Rattle.pcl_lexer.specs.Lexing.State.{LexerState}
use Rattle.pcl_lexer.specs.Modes.{mode_of}
use Rattle.comparison.specs.Running.{HasRun, IsWaiting, RunState, work}
use Rattle.comparison.proofs.Running.{end_taken, ended_run, less_by_end}
use Rattle.comparison.proofs.running_job.RunningJob.take_end.Goals as goal

pub invariant_of-self : goal.invariant_of-self
invariant_of-self g c = λ running.
    let l = c.self.inside in
    let ready = c.self.invariant running in
    let ended = c.end_input.ensures.ended in
    let few : l.reads < 2 ^ 40 = subst (λ (s : RunState). s.reads < 2 ^ 40) (sym c.self.view_is) c.requires.few in (
      ready.0,
      ready.1 ∙ sym (ap (λ (s : LexerState). mode_of s.context) ended),
      ap (λ (s : LexerState). s.place + length s.rest) ended ∙ ready.2,
      omega (arith, ready.3),
      omega (arith, few),
    )

pub returns-clause-ended : goal.returns-clause-ended
returns-clause-ended g c = λ printer panel first mid now made buf n none h given consumed over.
    let l = c.self.inside in
    let fields : RunState = record {
      lexer = l.lexer;
      machine = l.machine;
      events = l.recorder.events;
      place = l.place;
      total = l.total;
      reads = l.reads;
      number = l.number;
      progress = l.progress;
    } in
    let waits : IsWaiting fields = subst IsWaiting (sym c.self.view_is) c.requires.waits in
    end_taken fields c.end_input.new.self waits c.end_input.ensures.ended c.end_input.ensures.reads printer panel first mid now made buf n
    none (subst (λ (s : RunState). HasRun printer panel first mid made s) (sym c.self.view_is) h) given consumed over

pub returns-clause-less : goal.returns-clause-less
returns-clause-less g c =
    let l = c.self.inside in
    let fields : RunState = record {
      lexer = l.lexer;
      machine = l.machine;
      events = l.recorder.events;
      place = l.place;
      total = l.total;
      reads = l.reads;
      number = l.number;
      progress = l.progress;
    } in
    let waits : IsWaiting fields = subst IsWaiting (sym c.self.view_is) c.requires.waits in
    let few : l.reads < 2 ^ 40 = subst (λ (s : RunState). s.reads < 2 ^ 40) (sym c.self.view_is) c.requires.few in
    subst (λ (s : RunState). work (ended_run fields c.end_input.new.self waits c.end_input.ensures.ended) < work s) c.self.view_is
    (less_by_end fields c.end_input.new.self waits c.end_input.ensures.ended few)

pub returns-clause-none : goal.returns-clause-none
returns-clause-none g c = ap (λ (s : RunState). s.events) c.self.view_is ∙ c.requires.waits.none

pub returns-clause-number : goal.returns-clause-number
returns-clause-number g c = ap (λ (s : RunState). s.number) c.self.view_is
