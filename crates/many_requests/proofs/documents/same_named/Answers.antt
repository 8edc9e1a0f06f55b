use Rattle.std.proofs.Common.{◌≡◌, ◌∙◌, ◌+◌, ◌-◌, ◌<◌, Bool, List, None, Some}
use Rattle.std.proofs.Common.{ap, arith, drop, false, get_or, if◌then◌else◌, length, map, sym}
use Rattle.std.proofs.Common.{take, true, ℕ}
use Rattle.std.proofs.lemmas.List.{drop_all, drop_more, take_rest}
use Rattle.many_requests.specs.Documents.{is_taken, same_named}
use Rattle.many_requests.proofs.documents.same_named.Goals as goal

module _ {X : Type 0} (name : X → List ℕ) (jobs : List X) (i : ℕ) (d : X) (inside : i < length jobs) where
  -- the next job decides, by whether it is taken
  by_next : (result test : Bool) →
      result ≡ is_taken (name (get_or jobs i d)) (map name (take (length jobs - (i + 1)) (drop (i + 1) jobs))) → result ≡ test →
      same_named (map name (drop i jobs))
      ≡ (if test then Some (name (get_or jobs i d)) else same_named (map name (drop (i + 1) jobs)))
  by_next result test told is =
      ap (λ (l : List X). same_named (map name l)) (drop_more jobs i d inside)
      ∙ ap (λ (b : Bool). if b then Some (name (get_or jobs i d)) else same_named (map name (drop (i + 1) jobs)))
      (ap (λ (l : List X). is_taken (name (get_or jobs i d)) (map name l)) (sym (take_rest jobs (i + 1))) ∙ (sym told ∙ is))

pub loop-at-preserved : goal.loop-at-preserved
loop-at-preserved c =
    sym (by_next (λ job. job.now) c.args.jobs.now c.loop-at.at _ (omega arith) c.is_taken.result false c.is_taken.ensures
    c.if-is_taken.false) ∙ c.loop-at.invariant

pub returns-then-is_taken : goal.returns-then-is_taken
returns-then-is_taken c =
    sym (by_next (λ job. job.now) c.args.jobs.now c.loop-at.at _ (omega arith) c.is_taken.result true c.is_taken.ensures
    c.if-is_taken.true) ∙ c.loop-at.invariant

pub returns : goal.returns
returns c =
    sym (ap (λ jobs. same_named (map (λ job. job.now) jobs)) (drop_all c.loop-at.at c.args.jobs.now (omega arith)))
    ∙ c.loop-at.invariant
