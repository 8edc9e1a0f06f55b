use Rattle.std.proofs.Common.{ap, ◌∙◌}
use Rattle.compare_command.specs.Golden.{ending_of}
use Rattle.compare_command.specs.Telling.{HowTold, found_text}
use Rattle.compare_command.proofs.golden.told_of_found.Goals as goal

pub returns-clause-text : goal.returns-clause-text
returns-clause-text c =
    let found = c.args.found.now in
    c.in_ok-text.ensures ∙ ap (λ (telling : HowTold). found_text telling found.number found.outcome) c.telling-telling.ensures

pub returns-clause-ending : goal.returns-clause-ending
returns-clause-ending c = c.of-ending.ensures ∙ ap ending_of c.same_counts.ensures
