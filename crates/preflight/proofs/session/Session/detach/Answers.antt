use Rattle.std.proofs.Common.{◌≡◌, ◌∙◌, Option, ap, subst, sym}
use Rattle.preflight.specs.declared.check_state.CheckState.{CheckState}
use Rattle.preflight.specs.declared.check_state.CheckState.TheVariants.{Open}
use Rattle.judgement.specs.declared.failing_item.FailingItem.{FailingItem}
use Rattle.preflight.specs.Carriers.Detached.{IsLeftOf, IsUnderWay, session_with}
use Rattle.preflight.specs.Session.{SessionState}
use Rattle.preflight.proofs.Attaching.{session_left}
use Rattle.preflight.proofs.session.Session.detach.Goals as goal

pub detach-requires : goal.detach-requires
detach-requires g c = (c.self.invariant (ap (λ (session : SessionState). session.state) c.self.view_is ∙ c.requires)).2

pub returns : goal.returns
returns g c =
    let checking = c.self.inside.checking in
    let is_open : checking.state ≡ Open = ap (λ (session : SessionState). session.state) c.self.view_is ∙ c.requires in
    let ready = c.self.invariant is_open in
    let opened : SessionState = session_with checking.lexer checking.machines c.self.inside.total in
    let under_way : IsUnderWay opened = record {
      open_input = ready.0;
      wants_more = ready.1;
      running = ready.2;
      modes = ready.3;
      places = ready.4;
      short = ready.5;
    } in
    let same : opened ≡ c.args.self =
    ap (λ (state : CheckState). record opened { state = state }) (sym is_open)
    ∙ ap (λ (item : Option FailingItem). record opened { state = checking.state; failing_item = item }) (sym ready.6)
    ∙ c.self.view_is in
    subst (λ (session : SessionState). IsLeftOf session (record {
      lexer = checking.lexer;
      machines = c.in_ok-machines.machines;
      total = c.self.inside.total;
    })) same
    (session_left checking.lexer checking.machines c.self.inside.total c.in_ok-machines.machines c.in_ok-machines.ensures under_way)
