use Rattle.std.proofs.Common.{◌≡◌, ◌+◌, ◌++◌, ℕ, List, false, length, refl, ap, sym, ◌∙◌, subst, Result, Ok, Err, OnOk, is_err}
use Rattle.pcl_lexer.specs.Lexing.State.{LexerState}
use Rattle.pcl_lexer.specs.Lexing.Meaning.{MayBe}
use Rattle.pcl_lexer.specs.Modes.{mode_of}
use Rattle.preflight.specs.CheckState.{is_open}
use Rattle.preflight.specs.Carriers.Checking.{FailsBy}
use Rattle.preflight.specs.Carriers.Lockstep.{AreIn, counts_of, machines_of}
use Rattle.preflight.specs.Session.{ChecksOn, SessionState}
use Rattle.preflight.proofs.Answered.{came_open, goes_open}
use Rattle.preflight.proofs.Sessions.{checks_more, judged_by_piece, out_of_memory}
use Rattle.preflight.proofs.CheckStates.{judged_stands, stopped_stands}
use Rattle.preflight.proofs.UnderWay.{executed_fed}
use Rattle.preflight.proofs.session.SessionConsumerUnit.piece.Goals.{in-Open, in-Judged, in-Stopped}
use Rattle.preflight.proofs.session.SessionConsumerUnit.piece.Goals as goal

-- what follows from a piece that was fed
fed_ok : {T E P : Type 0} (result : Result T E) → is_err result ≡ false → OnOk result P → P
fed_ok (Ok x) is h = h
fed_ok (Err e) is h = absurd cc

pub execute_decided-requires-clause-may : goal.execute_decided-requires-clause-may
execute_decided-requires-clause-may g c =
    let is = ap (λ (s : SessionState). s.state) c.self.view_is ∙ c.requires.room.0 in
    let ready = c.self.invariant is in
    let fed = fed_ok c.feed.result (sym c.is_err.ensures.value ∙ c.if-is_err.false) c.feed.ensures.ok in
    record {
      running = ready.2;
      modes = subst (λ (s : LexerState). AreIn (mode_of s.context) (machines_of c.self.inside.checking.machines)) (sym fed) ready.3;
      stands = is;
    }

pub returns : goal.returns
returns g c = λ first bytes goes.
    let inside = c.self.inside in
    let piece = c.args.piece.now in
    let here = inside.checking in
    let new = c.execute_decided.new.self in
    let old : SessionState = record {
      lexer = here.lexer;
      machines = machines_of here.machines;
      counts = counts_of here.machines;
      total = inside.total;
      state = here.state;
      failing_item = here.failing_item;
    } in
    let after : SessionState = record {
      lexer = new.lexer;
      machines = machines_of new.machines;
      counts = counts_of new.machines;
      total = inside.total + length piece;
      state = new.state;
      failing_item = new.failing_item;
    } in
    let before : ChecksOn first.0 bytes old = subst (ChecksOn first.0 bytes) (sym c.self.view_is) goes in
    let fed = fed_ok c.feed.result (sym c.is_err.ensures.value ∙ c.if-is_err.false) c.feed.ensures.ok in
    let reads = fed_ok c.feed.result (sym c.is_err.ensures.value ∙ c.if-is_err.false) c.feed.ensures.reads in
    let not_ended : c.feed.new.self.ended ≡ false = ap (λ (s : LexerState). s.ended) fed ∙ before.open_input in
    let went = c.execute_decided.ensures in
    elim c.match-self.branch [
      | in-Open w ↦
          let is = ap is_open w.in-Open.is in
          let on = (goes_open _ new.lexer (machines_of new.machines) new.state is went.goes_on).1 not_ended in
          rw w.result-is
          (checks_more first.0 old after bytes before piece w.in-Open.is refl (went.ended ∙ not_ended) on.0
          (λ fleet base executed.
          let came =
          came_open _ _ _ new.lexer _ (machines_of new.machines) _ (counts_of new.machines) new.state is went.came fleet (base ++ piece)
          (executed_fed fleet base piece here.lexer c.feed.new.self (machines_of here.machines) (counts_of here.machines) reads executed) in
          came.0))
      | in-Judged w ↦
          let verdict = w.in-Judged.verdict in
          let judged = judged_stands new.state _ verdict w.in-Judged.is went.came in
          rw w.result-is
          (judged_by_piece first.0 old after bytes before c.fails_say.ensures piece judged.0 verdict judged.1 w.in-Judged.is
          (λ fleet base executed.
          subst
          (λ ended. (job : List ℕ) → MayBe ended (base ++ piece) job →
          FailsBy fleet job judged.0 new.failing_item (counts_of new.machines) (machines_of new.machines))
          not_ended
          (judged.2 fleet (base ++ piece)
          (executed_fed fleet base piece here.lexer c.feed.new.self (machines_of here.machines)
          (counts_of here.machines) reads executed))))
      | in-Stopped w ↦
          let error = w.in-Stopped.error in
          rw w.result-is
          (out_of_memory new.state error w.in-Stopped.is (stopped_stands new.state _ error w.in-Stopped.is went.goes_on))
    ]
