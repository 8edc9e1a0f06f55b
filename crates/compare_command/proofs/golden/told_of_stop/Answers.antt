use Rattle.std.proofs.Common.{List, ap, map, option_map, ℕ, ◌++◌, ◌∙◌}
use Rattle.compare_command.specs.Telling.{stop_told}
use Rattle.compare_command.proofs.golden.told_of_stop.Goals as goal

pub returns-clause-text : goal.returns-clause-text
returns-clause-text c =
    let names : List (List ℕ) = map (λ name. name.items) c.args.names.now in
    let cause = option_map (λ words. words.now) c.map-cause.result in
    let told = λ (job : List ℕ). stop_told c.args.asked.now.form names job c.args.stop.now.error cause in (
      cause,
      c.in_ok-push_stop.ensures
          ∙ (ap (λ (front : List ℕ). front ++ told c.name_by-name.result.now) c.new-text.ensures.items
          ∙ ap told c.name_by-name.ensures),
    )
