use Rattle.std.proofs.Common.{sym}
use Rattle.preflight.proofs.Keeping.{answered_now, fed_of, not_over, used}
use Rattle.preflight.proofs.kept_check.KeptCheck.end.Goals as goal

pub end-requires : goal.end-requires
end-requires g c = used c.args.self c.in-Open.session c.in-Open.is c.args.fleet.now c.requires

pub returns-in-Open-clause-ended : goal.returns-in-Open-clause-ended
returns-in-Open-clause-ended g c = λ bytes kept.
    c.end.ensures.ended bytes (fed_of c.args.self c.in-Open.session c.in-Open.is c.args.fleet.now bytes kept)

pub returns-in-Open-clause-over : goal.returns-in-Open-clause-over
returns-in-Open-clause-over g c = c.end.ensures.over

pub returns-in-Open-clause-again : goal.returns-in-Open-clause-again
returns-in-Open-clause-again g c = λ over. absurd (not_over c.args.self c.in-Open.session c.in-Open.is over)

pub returns-in-Judged-clause-ended : goal.returns-in-Judged-clause-ended
returns-in-Judged-clause-ended g c = λ bytes kept.
    answered_now c.args.self c.in-Judged.answer c.in-Judged.is c.args.fleet.now bytes kept

pub returns-in-Judged-clause-over : goal.returns-in-Judged-clause-over
returns-in-Judged-clause-over g c = tt

pub returns-in-Judged-clause-again : goal.returns-in-Judged-clause-again
returns-in-Judged-clause-again g c = λ over. sym c.in-Judged.is

pub returns-in-Stopped-clause-ended : goal.returns-in-Stopped-clause-ended
returns-in-Stopped-clause-ended g c = λ bytes kept. tt

pub returns-in-Stopped-clause-over : goal.returns-in-Stopped-clause-over
returns-in-Stopped-clause-over g c = tt

pub returns-in-Stopped-clause-again : goal.returns-in-Stopped-clause-again
returns-in-Stopped-clause-again g c = λ over. sym c.in-Stopped.is
