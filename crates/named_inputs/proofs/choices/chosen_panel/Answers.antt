use Rattle.std.proofs.Common.{◌∙◌, sym}
use Rattle.named_inputs.proofs.ChoiceFacts.{chosen_next, choice_allowed}
use Rattle.named_inputs.proofs.choices.chosen_panel.Goals as goal

pub loop-choice-preserved : goal.loop-choice-preserved
loop-choice-preserved g c =
    let is = sym c.is_choice.ensures ∙ c.if-not-is_choice.false in (
      chosen_next c.args.profile.now _ _ _ _ _ _ c.loop-choice-test.true is c.choose.ensures c.loop-choice.invariant.0,
      choice_allowed c.args.profile.now _ _ _ is c.choose.ensures c.loop-choice.invariant.1,
    )
