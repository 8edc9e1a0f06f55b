use Rattle.std.proofs.Common.{List, OnOk, ℕ, subst, ◌≡◌, ◌++◌}
use Rattle.compare_command.specs.Telling.{difference_text}
use Rattle.compare_command.proofs.telling.push_difference.Goals as goal

pub returns : goal.returns
returns c =
    let telling = c.args.telling.now in
    subst
    (λ (name : List ℕ). OnOk c.push_difference_for.result (c.push_difference_for.new.text.items
    ≡ c.args.text.now.items
    ++ difference_text telling.form telling.is_named telling.old_name.now telling.new_name.now name c.args.difference))
    c.name_of-printer.ensures c.push_difference_for.ensures
