use Rattle.std.proofs.Common.{List, Some, ℕ, inl, inr, map, option_map, subst, sym}
use Rattle.std.specs.Prelude.{Contains}
use Rattle.streams.specs.Used.{FileUse}
use Rattle.many_requests.specs.Looks.{Finds}
use Rattle.many_requests.proofs.Found.{some_weaker}
use Rattle.many_requests.proofs.documents.read_there.Goals as goal

pub returns-in-Some-clause-is_read : goal.returns-in-Some-clause-is_read
returns-in-Some-clause-is_read g c =
    inl (subst (Contains (map (λ word. word.now) c.args.documents.now.many.now.printers.now)) (sym c.as_bytes.ensures.value)
    c.in-Some.ensures.is_one)

pub returns-in-Some-clause-found : goal.returns-in-Some-clause-found
returns-in-Some-clause-found g c =
    subst (λ (name : List ℕ). Finds c.args.path.now (Some name) c.args.used.now c.first_same.new.used) (sym c.as_bytes.ensures.value)
    c.in-Some.ensures.found

pub returns-in-None-clause-is_read : goal.returns-in-None-clause-is_read
returns-in-None-clause-is_read g c = some_weaker c.read_beside.result (λ name has. inr has) c.read_beside.ensures.is_read

pub returns-in-None-clause-found : goal.returns-in-None-clause-found
returns-in-None-clause-found g c =
    subst
    (λ (used : List FileUse). Finds c.args.path.now (option_map (λ name. name.now) c.read_beside.result) used
    c.read_beside.new.used)
    c.in-None.ensures.found c.read_beside.ensures.found
