use Rattle.many_requests.proofs.documents.linked_job.Goals as goal

pub returns-then-is_link-clause-found : goal.returns-then-is_link-clause-found
returns-then-is_link-clause-found g c = c.first_job.ensures.found
