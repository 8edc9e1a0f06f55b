use Rattle.preflight.proofs.Keeping.{answered, fed_of, still_answered, used}
use Rattle.preflight.proofs.kept_check.KeptCheck.feed.Goals as goal

pub feed-requires : goal.feed-requires
feed-requires g c = used c.args.self c.in-Open.session c.in-Open.is c.args.fleet.now c.requires

pub returns-in-Open-clause-fed : goal.returns-in-Open-clause-fed
returns-in-Open-clause-fed g c = λ bytes kept.
    c.feed.ensures.fed bytes (fed_of c.args.self c.in-Open.session c.in-Open.is c.args.fleet.now bytes kept)

pub returns-in-Open-clause-going : goal.returns-in-Open-clause-going
returns-in-Open-clause-going g c = c.feed.ensures.going

pub returns-in-Judged-clause-fed : goal.returns-in-Judged-clause-fed
returns-in-Judged-clause-fed g c = λ bytes kept.
    still_answered c.args.fleet.now bytes c.args.piece.now c.in-Judged.answer
    (answered c.args.self c.in-Judged.answer c.in-Judged.is c.args.fleet.now bytes kept)

pub returns-in-Judged-clause-going : goal.returns-in-Judged-clause-going
returns-in-Judged-clause-going g c = tt

pub returns-in-Stopped-clause-fed : goal.returns-in-Stopped-clause-fed
returns-in-Stopped-clause-fed g c = λ bytes kept. tt

pub returns-in-Stopped-clause-going : goal.returns-in-Stopped-clause-going
returns-in-Stopped-clause-going g c = tt
