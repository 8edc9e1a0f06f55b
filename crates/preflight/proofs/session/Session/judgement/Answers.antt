use Rattle.std.proofs.Common.{◌≡◌, ◌∙◌, Option, ap, subst, sym, ℕ}
use Rattle.preflight.specs.Judgement.{IsJudgementOn}
use Rattle.preflight.specs.Session.{SessionState}
use Rattle.preflight.specs.Where.{IsOnPage, page_with}
use Rattle.preflight.proofs.Spots.{cursor_right, font_right}
use Rattle.preflight.proofs.session.Session.judgement.Goals as goal

pub returns : goal.returns
returns g c = λ fleet job said.
    let verdict = c.args.verdict in
    let item = c.self.inside.checking.failing_item in
    let fleet_now = c.self.inside.checking.machines in
    let right : IsJudgementOn fleet job verdict item (page_with verdict fleet_now.counts) fleet_now.machines =
    subst (λ (session : SessionState). IsJudgementOn fleet job verdict session.failing_item (page_with verdict session.counts)
    session.machines) (sym c.self.view_is) said in
    let page_is : c.page_with.result ≡ page_with verdict fleet_now.counts = c.page_with.ensures ∙ ap (page_with verdict) c.counts.ensures in
    record {
      exact = right.0;
      promise = right.1;
      told = right.2;
      paged = subst (λ (page : Option ℕ). IsOnPage fleet job verdict page) (sym page_is) right.3;
      placed = cursor_right fleet job verdict item fleet_now.machines c.cursor_with.result c.cursor_with.ensures right.4;
      asks = font_right fleet job verdict item fleet_now.machines c.font_with.result c.font_with.ensures right.4;
    }
