use Rattle.std.proofs.Common.{◌∙◌, List, Some, ℕ, ap, option_map, sym}
use Rattle.many_requests.proofs.Found.{some_weaker}
use Rattle.many_requests.proofs.documents.same_list.Goals as goal

pub returns-in-Some-clause-is_list : goal.returns-in-Some-clause-is_list
returns-in-Some-clause-is_list g c =
    some_weaker c.list_there.result
    (λ found is. ap (option_map (λ path. path.now)) c.in-Some.is ∙ ap (λ (path : List ℕ). Some path) (sym is))
    c.list_there.ensures.is_list

pub returns-in-Some-clause-found : goal.returns-in-Some-clause-found
returns-in-Some-clause-found g c = c.list_there.ensures.found
