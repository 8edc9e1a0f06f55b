use Rattle.std.proofs.Common.{◌≡◌, ◌-◌, ◌∙◌, Some, sym, refl}
use Rattle.pcl_items.specs.Escapes.Commands.{command_at}
use Rattle.pcl_items.specs.Items.{amount}
use Rattle.pcl_lexer.proofs.Escapes.ReadCommands.{named_small}
use Rattle.pcl_lexer.proofs.pcl.parameterized.other_command.Goals as goal

pub returns-clause-ends : goal.returns-clause-ends
returns-clause-ends c =
    let field = c.args.field in
    let command = c.in_ok-command.command in
    let known : command_at c.args.group (field.last - 32) ≡ Some command = sym c.of.ensures ∙ c.in_ok-command.was in
    (λ bytes. named_small c.args.group (amount field.number) field.len field.last bytes command c.requires.small known, refl)
