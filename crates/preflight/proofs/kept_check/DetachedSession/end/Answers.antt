use Rattle.std.proofs.Common.{subst, sym}
use Rattle.preflight.specs.Session.{HasChecked, SessionState}
use Rattle.preflight.proofs.kept_check.DetachedSession.end.Goals as goal

pub attach-requires : goal.attach-requires
attach-requires g c = c.requires.fed.left

pub returns-in-Ok-clause-ended : goal.returns-in-Ok-clause-ended
returns-in-Ok-clause-ended g c = λ bytes fed.
    c.end_and_keep.ensures.ended c.args.fleet.now bytes
    (subst (λ (session : SessionState). HasChecked c.args.fleet.now bytes session) (sym c.in-Ok.ensures) fed.checked)

pub returns-in-Ok-clause-over : goal.returns-in-Ok-clause-over
returns-in-Ok-clause-over g c = c.end_and_keep.ensures.over

pub returns-in-Err-clause-ended : goal.returns-in-Err-clause-ended
returns-in-Err-clause-ended g c = λ bytes fed. tt

pub returns-in-Err-clause-over : goal.returns-in-Err-clause-over
returns-in-Err-clause-over g c = tt
