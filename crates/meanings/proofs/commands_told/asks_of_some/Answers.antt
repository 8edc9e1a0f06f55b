use Rattle.std.proofs.Common.{ℕ, List, Option, option_map, rules, sym, ◌∙◌}
use Rattle.std.proofs.lemmas.List.Folds.{list_any_at}
use Rattle.meanings.proofs.ExplainFacts.{any_of_map, none_more, none_at_all}
use Rattle.meanings.specs.CommandsTold.{asks_of}
use Rattle.meanings.proofs.commands_told.asks_of_some.Goals as goal

pub returns-then-asks_of : goal.returns-then-asks_of
returns-then-asks_of c =
    let code : Option (List ℕ) = option_map (λ word. word.now) c.args.code in
    sym (any_of_map (asks_of code) (λ text. text.now) c.args.commands.now
    ∙ list_any_at (λ text. asks_of code text.now) c.args.commands.now c.loop-text.text-index _ (search rules)
    (sym c.asks_of.ensures ∙ c.if-asks_of.true))

pub loop-text-preserved : goal.loop-text-preserved
loop-text-preserved c =
    none_more (λ text. asks_of (option_map (λ word. word.now) c.args.code) text.now) c.args.commands.now c.loop-text.text-index _
    (search rules) c.loop-text.invariant (sym c.asks_of.ensures ∙ c.if-asks_of.false)

pub returns : goal.returns
returns c =
    let code : Option (List ℕ) = option_map (λ word. word.now) c.args.code in
    sym (any_of_map (asks_of code) (λ text. text.now) c.args.commands.now
    ∙ none_at_all (λ text. asks_of code text.now) c.args.commands.now c.loop-text.text-index c.loop-text-test.false c.loop-text.invariant)
