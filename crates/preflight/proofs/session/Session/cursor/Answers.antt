use Rattle.std.proofs.Common.{None, refl, subst}
use Rattle.preflight.specs.Carriers.Lockstep.{machines_of}
use Rattle.preflight.specs.Session.{SessionState}
use Rattle.preflight.specs.Stood.{IsSpotOf, IsOfSession}
use Rattle.preflight.proofs.Spots.{told_judged, told_open, told_stopped}
use Rattle.preflight.proofs.session.Session.cursor.Goals as goal

pub returns-in-Open : goal.returns-in-Open
returns-in-Open g c =
    let checking = c.self.inside.checking in
    subst (λ (s : SessionState). IsOfSession IsSpotOf s.state s.failing_item s.machines None) c.self.view_is
    (told_open IsSpotOf checking.failing_item (machines_of checking.machines) None checking.state c.in-Open.is refl)

pub returns-in-Judged : goal.returns-in-Judged
returns-in-Judged g c =
    let checking = c.self.inside.checking in
    subst (λ (s : SessionState). IsOfSession IsSpotOf s.state s.failing_item s.machines c.cursor_with.result) c.self.view_is
    (told_judged IsSpotOf checking.failing_item (machines_of checking.machines) c.cursor_with.result checking.state c.in-Judged.verdict
    c.in-Judged.is c.cursor_with.ensures)

pub returns-in-Stopped : goal.returns-in-Stopped
returns-in-Stopped g c =
    let checking = c.self.inside.checking in
    subst (λ (s : SessionState). IsOfSession IsSpotOf s.state s.failing_item s.machines None) c.self.view_is
    (told_stopped IsSpotOf checking.failing_item (machines_of checking.machines) None checking.state _ c.in-Stopped.is refl)
