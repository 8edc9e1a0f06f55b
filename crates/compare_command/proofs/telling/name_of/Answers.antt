use Rattle.std.proofs.Common.{[], ap, get_or, map, ◌∙◌}
use Rattle.compare_command.proofs.Names.{no_text_at, text_at}
use Rattle.compare_command.proofs.telling.name_of.Goals as goal

pub returns-in-Some : goal.returns-in-Some
returns-in-Some c =
    let item = c.in-Some.ensures.lookup in
    c.as_slice.ensures.value
    ∙ (text_at c.args.names.now (λ name. name.items) c.saturating_sub.result c.in-Some.name.now item.3.0 item.1
    ∙ ap (λ n. get_or (map (λ name. name.items) c.args.names.now) n []) c.saturating_sub.ensures)

pub returns-in-None : goal.returns-in-None
returns-in-None c =
    let item = c.in-None.ensures.lookup in
    no_text_at c.args.names.now (λ name. name.items) c.saturating_sub.result item.3
    ∙ ap (λ n. get_or (map (λ name. name.items) c.args.names.now) n []) c.saturating_sub.ensures
