use Rattle.std.proofs.Common.{arith}
use Rattle.page_env.proofs.Lanes.{inked_more}
use Rattle.page_env.proofs.TextGoes.{further_in_first}
use Rattle.page_env.proofs.text_lines.text_of_first_range.Goals as goal

pub overflow_add-known-in-loop : goal.overflow_add-known-in-loop
overflow_add-known-in-loop g c =
    let count = c.text_of_range-count.ensures in
    let both = inked_more _ _ _ _ _ c.loop.invariant.0 (omega (arith, count.short, c.if-rest-lt-LANES.false))
    c.loop.invariant.2 count.inked in
    omega (arith, both.1)

pub loop-preserved : goal.loop-preserved
loop-preserved g c =
    let count = c.text_of_range-count.ensures in
    let both = inked_more _ _ _ _ _ c.loop.invariant.0 (omega (arith, count.short, c.if-rest-lt-LANES.false))
    c.loop.invariant.2 count.inked in (
      omega (arith, c.loop.invariant.0, count.short, c.if-rest-lt-LANES.false),
      further_in_first _ _ _ _ _ _ c.codes.ensures c.in-len1-up.len_at_least c.loop.invariant.1 count.known,
      both.0,
    )

pub returns-then-count-lt-LANES-clause-known : goal.returns-then-count-lt-LANES-clause-known
returns-then-count-lt-LANES-clause-known g c =
    further_in_first _ _ _ _ _ _ c.codes.ensures c.in-len1-up.len_at_least c.loop.invariant.1 c.text_of_range-count.ensures.known

pub returns-then-count-lt-LANES-clause-inked : goal.returns-then-count-lt-LANES-clause-inked
returns-then-count-lt-LANES-clause-inked g c =
    let count = c.text_of_range-count.ensures in
    (inked_more _ _ _ _ _ c.loop.invariant.0 (omega (arith, count.short, c.if-rest-lt-LANES.false)) c.loop.invariant.2 count.inked).0
