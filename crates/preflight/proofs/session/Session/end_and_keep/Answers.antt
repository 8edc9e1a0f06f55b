use Rattle.preflight.proofs.session.Session.end_and_keep.Goals as goal

pub returns-in-Ok-clause-ended : goal.returns-in-Ok-clause-ended
returns-in-Ok-clause-ended g c = λ fleet bytes checked.
    c.judgement.ensures fleet bytes (c.in-Ok.ensures.ended fleet bytes checked)

pub returns-in-Ok-clause-over : goal.returns-in-Ok-clause-over
returns-in-Ok-clause-over g c = tt
