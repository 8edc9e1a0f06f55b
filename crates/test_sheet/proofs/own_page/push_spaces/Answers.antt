use Rattle.std.proofs.Common.{◌≡◌, [], ◌∷◌, ◌++◌, ◌∙◌, ap, append_assoc, arith, replicate}
use Rattle.std.proofs.lemmas.List.{replicate_more}
use Rattle.test_sheet.proofs.own_page.push_spaces.Goals as goal

pub loop-column-preserved : goal.loop-column-preserved
loop-column-preserved g c =
    let n = c.loop-column._column in
    let old = c.args.text.now.items in
    c.in_ok-push.ensures.items
    ∙ ap (λ l. l ++ 32 ∷ []) c.loop-column.invariant
    ∙ append_assoc old (replicate n 32) (32 ∷ [])
    ∙ ap (λ l. old ++ l) (replicate_more n 32)

pub returns : goal.returns
returns g c =
    let all : c.loop-column._column ≡ c.args.count = omega arith in
    c.loop-column.invariant ∙ ap (λ n. c.args.text.now.items ++ replicate n 32) all
