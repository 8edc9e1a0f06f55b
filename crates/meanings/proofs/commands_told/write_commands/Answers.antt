use Rattle.std.proofs.Common.{option_map}
use Rattle.command_names.specs.CommandNames.{texts_in}
use Rattle.meanings.proofs.CommandFacts.{told_asked, told_list}
use Rattle.meanings.proofs.commands_told.write_commands.Goals as goal

pub returns-then-asks_for_list-clause-text : goal.returns-then-asks_for_list-clause-text
returns-then-asks_for_list-clause-text g c =
    told_list _ _ (texts_in c.args.chapters.now) (option_map (λ word. word.now) c.args.code) c.asks_for_list.result
    c.asks_for_list.ensures c.if-asks_for_list.true c.write_lists.ensures.text

pub returns-clause-text : goal.returns-clause-text
returns-clause-text g c =
    told_asked _ _ (texts_in c.args.chapters.now) (option_map (λ word. word.now) c.args.code) c.asks_for_list.result
    c.asks_for_list.ensures c.if-asks_for_list.false c.write_asked_of_chapters.ensures.text
