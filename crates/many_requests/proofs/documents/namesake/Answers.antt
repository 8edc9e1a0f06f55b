use Rattle.std.proofs.Common.{◌≡◌, ◌∙◌, ◌+◌, ◌<◌, Bool, List, None, Some, ap, drop, false, get_or, if◌then◌else◌, length, map, sym}
use Rattle.std.proofs.Common.{true, ℕ}
use Rattle.std.proofs.lemmas.List.{drop_all, drop_more}
use Rattle.many_requests.specs.Documents.{is_namesake, namesake}
use Rattle.many_requests.proofs.documents.namesake.Goals as goal

module _ {X : Type 0} (job : List ℕ) (name : X → List ℕ) (jobs : List X) (i : ℕ) (d : X) (inside : i < length jobs) where
  -- the next job decides, by whether it is one
  by_next : (result test : Bool) → result ≡ is_namesake job (name (get_or jobs i d)) → result ≡ test →
      namesake job (map name (drop i jobs))
      ≡ (if test then Some (name (get_or jobs i d)) else namesake job (map name (drop (i + 1) jobs)))
  by_next result test told is =
      ap (λ (l : List X). namesake job (map name l)) (drop_more jobs i d inside)
      ∙ ap (λ (b : Bool). if b then Some (name (get_or jobs i d)) else namesake job (map name (drop (i + 1) jobs))) (sym told ∙ is)

pub loop-other-preserved : goal.loop-other-preserved
loop-other-preserved c =
    sym (by_next c.args.job.now (λ job. job.now) c.args.jobs.now c.loop-other.other-index _ c.loop-other-test.true c.is_namesake.result
    false c.is_namesake.ensures c.if-is_namesake.false) ∙ c.loop-other.invariant

pub returns-then-is_namesake : goal.returns-then-is_namesake
returns-then-is_namesake c =
    sym (by_next c.args.job.now (λ job. job.now) c.args.jobs.now c.loop-other.other-index _ c.loop-other-test.true c.is_namesake.result
    true c.is_namesake.ensures c.if-is_namesake.true) ∙ c.loop-other.invariant

pub returns : goal.returns
returns c =
    sym (ap (λ jobs. namesake c.args.job.now (map (λ job. job.now) jobs))
    (drop_all c.loop-other.other-index c.args.jobs.now c.loop-other-test.false))
    ∙ c.loop-other.invariant
