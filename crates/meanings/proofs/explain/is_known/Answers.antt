use Rattle.std.proofs.Common.{rules, sym, ◌∙◌}
use Rattle.std.proofs.lemmas.List.Folds.{list_any_at}
use Rattle.meanings.proofs.ExplainFacts.{any_of_map, none_more, none_at_all}
use Rattle.meanings.specs.Explanations.{is_about}
use Rattle.meanings.proofs.explain.is_known.Goals as goal

pub returns-then-is_about : goal.returns-then-is_about
returns-then-is_about c =
    sym (any_of_map (is_about c.args.code.now) (λ text. text.now) c.args.texts.now
    ∙ list_any_at (λ text. is_about c.args.code.now text.now) c.args.texts.now c.loop-text.text-index _ (search rules)
    (sym c.is_about.ensures ∙ c.if-is_about.true))

pub loop-text-preserved : goal.loop-text-preserved
loop-text-preserved c =
    none_more (λ text. is_about c.args.code.now text.now) c.args.texts.now c.loop-text.text-index _ (search rules) c.loop-text.invariant
    (sym c.is_about.ensures ∙ c.if-is_about.false)

pub returns : goal.returns
returns c =
    sym (any_of_map (is_about c.args.code.now) (λ text. text.now) c.args.texts.now
    ∙ none_at_all
    (λ text. is_about c.args.code.now text.now) c.args.texts.now c.loop-text.text-index c.loop-text-test.false c.loop-text.invariant)
