use Rattle.std.proofs.Common.{◌≡◌, ◌++◌, ◌∙◌, Bor, List, Option, ℕ, ap, append-nil, option_map, subst, sym}
use Rattle.std.specs.Prelude.{OnOk}
use Rattle.many_requests.specs.Documents.{other_part}
use Rattle.many_requests.proofs.documents.push_other.Goals as goal

-- of another job, if there is one
abbrev part_of : Option (Bor (List ℕ)) → List ℕ
part_of other = other_part (option_map (λ other. other.now) other)

pub returns-in-None : goal.returns-in-None
returns-in-None c =
    let line = c.args.line.now.items in
    sym (ap (λ (other : Option (Bor (List ℕ))). line ++ part_of other) c.in-None.is ∙ append-nil line)

pub returns-in-Some : goal.returns-in-Some
returns-in-Some c =
    subst
    (λ (other : Option (Bor (List ℕ))). OnOk c.push_beside.result
    (c.push_beside.new.line.items ≡ c.args.line.now.items ++ part_of other))
    (sym c.in-Some.is) c.push_beside.ensures
