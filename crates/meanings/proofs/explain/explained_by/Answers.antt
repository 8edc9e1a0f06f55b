use Rattle.std.proofs.Common.{decimal, sym, ◌∙◌}
use Rattle.meanings.proofs.ExplainFacts.{explained_at, explained_behind, explained_past}
use Rattle.meanings.proofs.explain.explained_by.Goals as goal

pub returns-then-is_about : goal.returns-then-is_about
returns-then-is_about c =
    sym (c.loop-text.invariant
    ∙ explained_at (decimal c.args.number) (λ text. text.now) c.args.texts.now c.loop-text.text-index _ c.format-code.result.now
    c.format-code.ensures.text c.loop-text-test.true c.is_about.result c.is_about.ensures c.if-is_about.true)

pub loop-text-preserved : goal.loop-text-preserved
loop-text-preserved c =
    c.loop-text.invariant
    ∙ explained_behind (decimal c.args.number) (λ text. text.now) c.args.texts.now c.loop-text.text-index _ c.format-code.result.now
    c.format-code.ensures.text c.loop-text-test.true c.is_about.result c.is_about.ensures c.if-is_about.false

pub returns : goal.returns
returns c =
    sym
    (c.loop-text.invariant
    ∙ explained_past (decimal c.args.number) (λ text. text.now) c.args.texts.now c.loop-text.text-index c.loop-text-test.false)
