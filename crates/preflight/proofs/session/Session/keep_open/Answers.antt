use Rattle.preflight.proofs.Keeping.{was_fed}
use Rattle.preflight.proofs.session.Session.keep_open.Goals as goal

pub returns-in-Ok : goal.returns-in-Ok
returns-in-Ok g c = λ fleet bytes checked. was_fed c.args.self c.in-Ok.session fleet bytes c.requires c.in-Ok.ensures checked

pub returns-in-Err : goal.returns-in-Err
returns-in-Err g c = λ fleet bytes checked. tt
