use Rattle.std.proofs.Common.{arith}
use Rattle.page_env.proofs.Lanes.{inked_more}
use Rattle.page_env.proofs.TextGoes.{go_further_in_rest}
use Rattle.page_env.proofs.text_lines.text_of_face.Goals as goal

pub overflow_add-result-2 : goal.overflow_add-result-2
overflow_add-result-2 g c =
    let first = c.text_of_first_range-known.ensures in
    let others = c.text_by_code-others.ensures in
    let both = inked_more _ _ _ _ _ first.short others.short first.inked others.inked in
    omega (arith, both.1)

pub returns-clause-known : goal.returns-clause-known
returns-clause-known g c = go_further_in_rest _ _ _ _ c.text_of_first_range-known.ensures.known c.text_by_code-others.ensures.known

pub returns-clause-inked : goal.returns-clause-inked
returns-clause-inked g c =
    let first = c.text_of_first_range-known.ensures in
    let others = c.text_by_code-others.ensures in
    (inked_more _ _ _ _ _ first.short others.short first.inked others.inked).0
