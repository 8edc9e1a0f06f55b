use Rattle.std.proofs.Common.{◌≡◌, ◌++◌, OnOk, append-nil, subst, sym}
use Rattle.subcommands.specs.JobNotes.{outcome_line}
use Rattle.foreign_calls.proofs.printer_texts.push_outcome.Goals as goal

pub returns-in-None : goal.returns-in-None
returns-in-None g c =
    let text = c.args.text.now.items in
    subst (λ outcome. text ≡ text ++ outcome_line outcome) (sym c.in-None.ensures) (sym (append-nil text))

pub returns-in-Some : goal.returns-in-Some
returns-in-Some g c =
    subst (λ outcome. OnOk c.push_failure.result (c.push_failure.new.text.items ≡ c.args.text.now.items ++ outcome_line outcome))
    (sym c.in-Some.ensures) c.push_failure.ensures
