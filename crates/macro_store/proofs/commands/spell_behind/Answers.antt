use Rattle.std.proofs.Common.{◌≡◌, ◌++◌, ap, subst, ◌∙◌, arith, rules}
use Rattle.std.proofs.lemmas.Grind.{common_steps}
use Rattle.pcl_items.specs.Items.{view, Parameterized, amount}
use Rattle.pcl_items.specs.Spellings.Canon.{canon, IsItem}
use Rattle.pcl_spelling.proofs.Spellings.ReadAgain.{item_known}
use Rattle.macro_store.proofs.KeptCommands.{stored_spelled, command_stored}
use Rattle.macro_store.proofs.commands.spell_behind.Goals as goal

pub returns-in_default-clause-stored : goal.returns-in_default-clause-stored
returns-in_default-clause-stored g c =
    stored_spelled c.args.pool.now.items c.spell.new.bytes.items
    (canon (view c.args.item.now)) c.args.commands.now.items c.spell.result c.spell.ensures.ok c.spell.ensures.err c.requires.stored

pub returns-clause-stored : goal.returns-clause-stored
returns-clause-stored g c =
    let is : view c.args.item.now ≡ Parameterized c.in-Simple-Parameterized.command (amount c.in-Simple-Parameterized.number) =
    search rules in
    command_stored c.args.pool.now.items c.spell-2.new.bytes.items c.reserve.new.self.items c.push.new.self.items _
    (c.in_ok-spell.ensures.ok ∙ ap (λ item. c.args.pool.now.items ++ canon item) is)
    (subst IsItem is (item_known c.args.item.now))
    (grind (arith, common_steps))
    (grind (arith, common_steps))
    c.in-Ok.ensures.items
    (search rules)
