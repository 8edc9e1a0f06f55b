use Rattle.std.proofs.Common.{◌≡◌, [], false, sym, ap, ◌∙◌, subst}
use Rattle.pcl_lexer.specs.Lexing.State.{WantsMore}
use Rattle.preflight.specs.Session.{SessionState}
use Rattle.preflight.proofs.Sessions.{checks_on_none, end_error, end_right, judged_before}
use Rattle.preflight.proofs.session.Session.verdict.Goals as goal

pub returns-in-Open-clause-ended : goal.returns-in-Open-clause-ended
returns-in-Open-clause-ended g c =
    let ready = c.self.invariant c.in-Open.is in
    let session = c.args.self.now in
    let goes =
    checks_on_none session (sym (ap (λ (s : SessionState). s.state) c.self.view_is) ∙ c.in-Open.is)
    (subst (λ (s : SessionState). s.lexer.ended ≡ false) c.self.view_is ready.0)
    (subst (λ (s : SessionState). WantsMore s.lexer) c.self.view_is ready.1) in
    end_right session c.end.new.self c.end.result (c.end.ensures (session, tt) [] goes)

pub returns-in-Open-clause-errors : goal.returns-in-Open-clause-errors
returns-in-Open-clause-errors g c = λ is.
    let ready = c.self.invariant c.in-Open.is in
    let session = c.args.self.now in
    let goes =
    checks_on_none session is (subst (λ (s : SessionState). s.lexer.ended ≡ false) c.self.view_is ready.0)
    (subst (λ (s : SessionState). WantsMore s.lexer) c.self.view_is ready.1) in
    end_error session c.end.new.self c.end.result (c.end.ensures (session, tt) [] goes)

pub returns-in-Judged-clause-ended : goal.returns-in-Judged-clause-ended
returns-in-Judged-clause-ended g c = λ fleet bytes checked.
    judged_before c.args.self.now c.args.self.now fleet bytes checked c.in-Judged.verdict
    (sym (ap (λ (s : SessionState). s.state) c.self.view_is) ∙ c.in-Judged.is)
