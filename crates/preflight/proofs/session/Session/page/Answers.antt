use Rattle.std.proofs.Common.{◌≡◌, ℕ, Option, None, ap, sym, subst, ◌∙◌, refl}
use Rattle.preflight.specs.declared.check_state.CheckState.{CheckState}
use Rattle.preflight.specs.Carriers.Lockstep.{counts_of}
use Rattle.preflight.specs.Session.{SessionState, page_told}
use Rattle.preflight.specs.Where.{page_with}
use Rattle.preflight.proofs.session.Session.page.Goals as goal

pub returns-in-Open : goal.returns-in-Open
returns-in-Open g c =
    let none : Option ℕ = None in
    subst (λ (s : SessionState). none ≡ page_told s.state s.counts) c.self.view_is
    (subst (λ (s : CheckState). none ≡ page_told s (counts_of c.self.inside.checking.machines)) (sym c.in-Open.is) refl)

pub returns-in-Judged : goal.returns-in-Judged
returns-in-Judged g c =
    subst (λ (s : SessionState). c.page_with.result ≡ page_told s.state s.counts) c.self.view_is
    (subst (λ (s : CheckState). c.page_with.result ≡ page_told s (counts_of c.self.inside.checking.machines)) (sym c.in-Judged.is)
    (c.page_with.ensures ∙ ap (page_with c.in-Judged.verdict) c.counts.ensures))

pub returns-in-Stopped : goal.returns-in-Stopped
returns-in-Stopped g c =
    let none : Option ℕ = None in
    subst (λ (s : SessionState). none ≡ page_told s.state s.counts) c.self.view_is
    (subst (λ (s : CheckState). none ≡ page_told s (counts_of c.self.inside.checking.machines)) (sym c.in-Stopped.is) refl)
