use Rattle.std.proofs.Common.{map, option_map, sym, true≢false, ◌∙◌}
use Rattle.command_names.specs.CommandNames.{texts_in}
use Rattle.meanings.proofs.CommandFacts.{commands_are_heard, commands_end, is_heard, is_unheard_where_unknown, others_are_unheard}
use Rattle.meanings.proofs.CommandFacts.{others_end, told_commands, told_others}
use Rattle.meanings.proofs.explain.explain_of.Goals as goal

pub returns-then-asks_of_commands-clause-text : goal.returns-then-asks_of_commands-clause-text
returns-then-asks_of_commands-clause-text g c = λ heard.
    told_commands _ _ (map (λ text. text.now) c.args.texts.now) (texts_in c.args.chapters.now)
    (option_map (λ word. word.now) c.args.code) c.asks_of_commands.result c.asks_of_commands.ensures
    c.if-asks_of_commands.true c.tell_commands.ensures.text

pub returns-then-asks_of_commands-clause-untouched : goal.returns-then-asks_of_commands-clause-untouched
returns-then-asks_of_commands-clause-untouched g c = λ unheard.
    absurd (true≢false (sym unheard
    ∙ is_heard (map (λ text. text.now) c.args.texts.now) (texts_in c.args.chapters.now)
    (option_map (λ word. word.now) c.args.code) c.asks_of_commands.result c.asks_of_commands.ensures c.if-asks_of_commands.true))

pub returns-then-asks_of_commands-clause-status : goal.returns-then-asks_of_commands-clause-status
returns-then-asks_of_commands-clause-status g c =
    commands_end (map (λ text. text.now) c.args.texts.now) (texts_in c.args.chapters.now)
    (option_map (λ word. word.now) c.args.code) c.asks_of_commands.result c.asks_of_commands.ensures
    c.if-asks_of_commands.true _ _ c.tell_commands.ensures.status

pub returns-then-asks_of_commands-clause-complaint : goal.returns-then-asks_of_commands-clause-complaint
returns-then-asks_of_commands-clause-complaint g c = λ unheard.
    commands_are_heard _ _ (map (λ text. text.now) c.args.texts.now) (texts_in c.args.chapters.now)
    (option_map (λ word. word.now) c.args.code) c.asks_of_commands.result c.asks_of_commands.ensures
    c.if-asks_of_commands.true unheard

pub returns-clause-text : goal.returns-clause-text
returns-clause-text g c = λ heard.
    told_others _ _ (map (λ text. text.now) c.args.texts.now) (texts_in c.args.chapters.now)
    (option_map (λ word. word.now) c.args.code) c.asks_of_commands.result c.asks_of_commands.ensures
    c.if-asks_of_commands.false c.explain_from.ensures.text heard

pub returns-clause-complaint : goal.returns-clause-complaint
returns-clause-complaint g c = λ unheard.
    others_are_unheard _ _ (map (λ text. text.now) c.args.texts.now) (texts_in c.args.chapters.now)
    (option_map (λ word. word.now) c.args.code) c.asks_of_commands.result c.asks_of_commands.ensures
    c.if-asks_of_commands.false c.explain_from.ensures.complaint unheard

pub returns-clause-untouched : goal.returns-clause-untouched
returns-clause-untouched g c = λ unheard.
    c.explain_from.ensures.untouched
    (sym (is_unheard_where_unknown (map (λ text. text.now) c.args.texts.now) (texts_in c.args.chapters.now)
    (option_map (λ word. word.now) c.args.code) c.asks_of_commands.result c.asks_of_commands.ensures c.if-asks_of_commands.false)
    ∙ unheard)

pub returns-clause-status : goal.returns-clause-status
returns-clause-status g c =
    others_end (map (λ text. text.now) c.args.texts.now) (texts_in c.args.chapters.now)
    (option_map (λ word. word.now) c.args.code) c.asks_of_commands.result c.asks_of_commands.ensures
    c.if-asks_of_commands.false _ _ c.explain_from.ensures.status

pub returns-clause-quiet : goal.returns-clause-quiet
returns-clause-quiet g c = λ heard.
    c.explain_from.ensures.quiet
    (sym (is_unheard_where_unknown (map (λ text. text.now) c.args.texts.now) (texts_in c.args.chapters.now)
    (option_map (λ word. word.now) c.args.code) c.asks_of_commands.result c.asks_of_commands.ensures c.if-asks_of_commands.false)
    ∙ heard)
