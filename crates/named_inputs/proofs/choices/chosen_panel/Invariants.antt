use Rattle.std.proofs.Common.{◌≡◌, drop}
use Rattle.device_profile.specs.Printer.{IsAllowed}
use Rattle.named_inputs.specs.Choices.{chosen_from, chosen_panel}
use Rattle.named_inputs.proofs.choices.chosen_panel.Given as goal

abbrev pub invariant-loop-choice : goal.invariant-loop-choice
invariant-loop-choice g l =
    (chosen_from l.profile l.panel (drop l.choice-index l.choices) ≡ chosen_panel l.profile l.choices) × IsAllowed l.profile l.panel
