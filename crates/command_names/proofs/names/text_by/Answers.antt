use Rattle.std.proofs.Common.{sym, ◌∙◌}
use Rattle.command_names.proofs.NamedFacts.{text_at, text_behind, text_past}
use Rattle.command_names.proofs.names.text_by.Goals as goal

pub returns-then-has_key : goal.returns-then-has_key
returns-then-has_key c =
    sym (c.loop-text.invariant
    ∙ text_at c.args.key.now (λ text. text.now) c.args.texts.now c.loop-text.text-index _ c.loop-text-test.true c.has_key.result
    c.has_key.ensures c.if-has_key.true)

pub loop-text-preserved : goal.loop-text-preserved
loop-text-preserved c =
    c.loop-text.invariant
    ∙ text_behind c.args.key.now (λ text. text.now) c.args.texts.now c.loop-text.text-index _ c.loop-text-test.true c.has_key.result
    c.has_key.ensures c.if-has_key.false

pub returns : goal.returns
returns c =
    sym
    (c.loop-text.invariant
    ∙ text_past c.args.key.now (λ text. text.now) c.args.texts.now c.loop-text.text-index c.loop-text-test.false)
