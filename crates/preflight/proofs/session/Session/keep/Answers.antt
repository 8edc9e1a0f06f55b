use Rattle.std.proofs.Common.{◌∙◌, ap, sym}
use Rattle.preflight.specs.Session.{SessionState}
use Rattle.preflight.proofs.Keeping.{answers_so}
use Rattle.preflight.proofs.session.Session.keep.Goals as goal

pub keep_open-requires : goal.keep_open-requires
keep_open-requires g c = sym (ap (λ (session : SessionState). session.state) c.self.view_is) ∙ c.in-Open.is

pub returns-in-Open : goal.returns-in-Open
returns-in-Open g c = c.keep_open.ensures

pub returns-in-Judged : goal.returns-in-Judged
returns-in-Judged g c = λ fleet bytes checked.
    answers_so c.args.self c.in-Judged.verdict c.judgement.result fleet bytes
    (sym (ap (λ (session : SessionState). session.state) c.self.view_is) ∙ c.in-Judged.is) c.judgement.ensures checked

pub returns-in-Stopped : goal.returns-in-Stopped
returns-in-Stopped g c = λ fleet bytes checked. tt
