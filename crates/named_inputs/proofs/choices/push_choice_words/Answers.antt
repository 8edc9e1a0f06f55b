use Rattle.std.proofs.Common.{◌++◌, ◌∙◌, ap, flat_map}
use Rattle.std.proofs.lemmas.List.{take_all}
use Rattle.named_inputs.specs.Choices.{choice_word}
use Rattle.named_inputs.proofs.choices.push_choice_words.Goals as goal

pub returns : goal.returns
returns g c =
    let part = choice_word c.args.field in
    c.loop-value.invariant
    ∙ ap (λ values. c.args.line.now.items ++ flat_map part values) (take_all _ _ c.loop-value-test.false)
