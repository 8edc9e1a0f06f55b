use Rattle.std.proofs.Common.{List, inl, inr, map, subst, sym, ◌∙◌, ℕ}
use Rattle.std.specs.Prelude.{Contains}
use Rattle.std.proofs.lemmas.Simd.{map-map}
use Rattle.compare_command.specs.Golden.{names_of}
use Rattle.many_requests.proofs.golden_jobs.refuse_golden.Goals as goal

pub returns-then-names_input-clause-refused : goal.returns-then-names_input-clause-refused
returns-then-names_input-clause-refused g c =
    inl (sym c.names_input.ensures ∙ c.if-names_input.true, c.refuse_words.ensures.status, c.refuse_words.ensures.text)

pub returns-in-Some-clause-refused : goal.returns-in-Some-clause-refused
returns-in-Some-clause-refused g c =
    let pairs = c.args.asked.now.pairs.now in
    let jobs : List (List ℕ) = map (λ pair. pair.new_name) (map names_of pairs) in
    let is_one : Contains jobs c.in-Some.name.now =
    subst (λ (names : List (List ℕ)). Contains names c.in-Some.name.now) (sym (map-map (λ pair. pair.new_name) names_of pairs))
    c.in-Some.ensures in
    inr (c.refuse_pipe.ensures jobs (subst (λ name. Contains jobs name) (sym c.as_bytes.ensures.value) is_one))
