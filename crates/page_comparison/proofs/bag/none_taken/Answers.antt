use Rattle.std.proofs.Common.{◌≡◌, ◌++◌, ◌∷◌, [], ap, arith, false, length, replicate, ◌∙◌}
use Rattle.std.proofs.lemmas.List.{replicate_more}
use Rattle.page_comparison.proofs.Free.{none_marked}
use Rattle.page_comparison.proofs.bag.none_taken.Goals as goal

pub loop-preserved : goal.loop-preserved
loop-preserved g c =
    rw c.in_ok-push.ensures.items (ap (λ l. l ++ false ∷ []) c.loop.invariant ∙ replicate_more c.loop.counter false)

pub returns : goal.returns
returns g c =
    let all : c.loop.counter ≡ length c.args.marks.now = omega arith in
    c.loop.invariant ∙ (ap (λ n. replicate n false) all ∙ none_marked c.args.marks.now)
