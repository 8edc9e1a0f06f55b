use Rattle.std.proofs.Common.{ap, sym, subst, ◌∙◌}
use Rattle.preflight.specs.Carriers.Lockstep.{counts_of, machines_of}
use Rattle.preflight.specs.Session.{ChecksOn, SessionState}
use Rattle.preflight.proofs.Sessions.{judged_at_end, out_of_memory}
use Rattle.preflight.proofs.CheckStates.{judged_ends, not_open_ends, stopped_ends}
use Rattle.preflight.proofs.session.SessionConsumerUnit.end.Goals.{in-Judged, in-Stopped}
use Rattle.preflight.proofs.session.SessionConsumerUnit.end.Goals as goal

pub finish-requires-clause-may : goal.finish-requires-clause-may
finish-requires-clause-may g c =
    let is = ap (λ (s : SessionState). s.state) c.self.view_is ∙ c.requires.room.0 in
    let ready = c.self.invariant is in
    record { running = ready.2; modes = ready.3; stands = is }

pub returns : goal.returns
returns g c = λ first bytes goes.
    let inside = c.self.inside in
    let before = inside.checking in
    let new = c.finish.new.self in
    let old : SessionState = record {
      lexer = before.lexer;
      machines = machines_of before.machines;
      counts = counts_of before.machines;
      total = inside.total;
      state = before.state;
      failing_item = before.failing_item;
    } in
    let after : SessionState = record {
      lexer = new.lexer;
      machines = machines_of new.machines;
      counts = counts_of new.machines;
      total = inside.total;
      state = new.state;
      failing_item = new.failing_item;
    } in
    elim c.match-self.branch [
      | in-Judged w ↦
          let verdict = w.in-Judged.verdict in
          rw w.result-is
          (judged_at_end first.0 old after bytes (subst (ChecksOn first.0 bytes) (sym c.self.view_is) goes) verdict w.in-Judged.is
          (judged_ends new.state _ verdict w.in-Judged.is c.finish.ensures))
      | in-Stopped w ↦
          let error = w.in-Stopped.error in
          rw w.result-is
          (out_of_memory new.state error w.in-Stopped.is (stopped_ends new.state _ error w.in-Stopped.is c.finish.ensures))
    ]

pub unreachable-requires : goal.unreachable-requires
unreachable-requires g c = not_open_ends c.finish.new.self.state _ c.in-Open.is c.finish.ensures
