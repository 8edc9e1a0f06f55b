use Rattle.std.proofs.Common.{◌++◌, subst, sym}
use Rattle.preflight.specs.Session.{HasChecked, SessionState}
use Rattle.preflight.proofs.Keeping.{going}
use Rattle.preflight.proofs.kept_check.DetachedSession.feed.Goals as goal

pub attach-requires : goal.attach-requires
attach-requires g c = c.requires.fed.left

pub returns-in-Ok-clause-fed : goal.returns-in-Ok-clause-fed
returns-in-Ok-clause-fed g c = λ bytes fed.
    c.feed_and_keep.ensures c.args.fleet.now bytes
    (subst (λ (session : SessionState). HasChecked c.args.fleet.now bytes session) (sym c.in-Ok.ensures) fed.checked)

pub returns-in-Ok-clause-going : goal.returns-in-Ok-clause-going
returns-in-Ok-clause-going g c =
    going c.feed_and_keep.result c.args.fleet.now (c.requires.bytes ++ c.args.piece.now)
    (returns-in-Ok-clause-fed g c c.requires.bytes c.requires.fed)

pub returns-in-Err-clause-fed : goal.returns-in-Err-clause-fed
returns-in-Err-clause-fed g c = λ bytes fed. tt

pub returns-in-Err-clause-going : goal.returns-in-Err-clause-going
returns-in-Err-clause-going g c = tt
