use Rattle.many_requests.proofs.drawn_jobs.overwritten_profile.Goals as goal

pub returns-in-Some : goal.returns-in-Some
returns-in-Some g c = (_, c.in-Some.ensures.is_one, c.in-Some.ensures.found)

pub returns-in-None : goal.returns-in-None
returns-in-None g c = c.in-None.ensures.found
