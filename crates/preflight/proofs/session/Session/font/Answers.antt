use Rattle.std.proofs.Common.{None, refl, subst}
use Rattle.preflight.specs.Carriers.Lockstep.{machines_of}
use Rattle.preflight.specs.Session.{SessionState}
use Rattle.preflight.specs.Stood.{IsOfSession, LacksFont}
use Rattle.preflight.proofs.Spots.{told_judged, told_open, told_stopped}
use Rattle.preflight.proofs.session.Session.font.Goals as goal

pub returns-in-Open : goal.returns-in-Open
returns-in-Open g c =
    let checking = c.self.inside.checking in
    subst (λ (s : SessionState). IsOfSession LacksFont s.state s.failing_item s.machines None) c.self.view_is
    (told_open LacksFont checking.failing_item (machines_of checking.machines) None checking.state c.in-Open.is refl)

pub returns-in-Judged : goal.returns-in-Judged
returns-in-Judged g c =
    let checking = c.self.inside.checking in
    subst (λ (s : SessionState). IsOfSession LacksFont s.state s.failing_item s.machines c.font_with.result) c.self.view_is
    (told_judged LacksFont checking.failing_item (machines_of checking.machines) c.font_with.result checking.state c.in-Judged.verdict
    c.in-Judged.is c.font_with.ensures)

pub returns-in-Stopped : goal.returns-in-Stopped
returns-in-Stopped g c =
    let checking = c.self.inside.checking in
    subst (λ (s : SessionState). IsOfSession LacksFont s.state s.failing_item s.machines None) c.self.view_is
    (told_stopped LacksFont checking.failing_item (machines_of checking.machines) None checking.state _ c.in-Stopped.is refl)
