use Rattle.std.proofs.Common.{◌≡◌, List, Some, ℕ, inl, inr, option_map, subst, sym}
use Rattle.streams.specs.Used.{FileUse}
use Rattle.many_requests.specs.Looks.{Finds}
use Rattle.many_requests.proofs.Found.{some_weaker}
use Rattle.many_requests.proofs.documents.read_for_jobs.Goals as goal

pub returns-in-Some-clause-is_read : goal.returns-in-Some-clause-is_read
returns-in-Some-clause-is_read g c =
    inl (subst
    (λ (list : List ℕ). option_map (λ path. path.now) c.args.documents.now.names_from ≡ Some list) (sym c.as_bytes.ensures.value)
    c.in-Some.ensures.is_list)

pub returns-in-Some-clause-found : goal.returns-in-Some-clause-found
returns-in-Some-clause-found g c =
    subst (λ (name : List ℕ). Finds c.args.path.now (Some name) c.args.used.now c.same_list.new.used) (sym c.as_bytes.ensures.value)
    c.in-Some.ensures.found

pub returns-in-None-clause-is_read : goal.returns-in-None-clause-is_read
returns-in-None-clause-is_read g c = some_weaker c.linked_job.result (λ name has. inr has) c.linked_job.ensures.is_one

pub returns-in-None-clause-found : goal.returns-in-None-clause-found
returns-in-None-clause-found g c =
    subst
    (λ (used : List FileUse). Finds c.args.path.now (option_map (λ job. job.now) c.linked_job.result) used c.linked_job.new.used)
    c.in-None.ensures.found c.linked_job.ensures.found
