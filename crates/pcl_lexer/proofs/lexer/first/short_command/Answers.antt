use Rattle.std.proofs.Common.{◌∙◌}
use Rattle.pcl_lexer.specs.Escapes.FieldEnd.{Ended}
use Rattle.pcl_items.specs.Items.{amount}
use Rattle.pcl_lexer.proofs.Escapes.FieldEnds.{command_by}
use Rattle.pcl_lexer.proofs.lexer.first.short_command.Goals as goal

pub returns-clause-first : goal.returns-clause-first
returns-clause-first c =
    let field = c.in_ok-field.field in
    c.ended_command.ensures.first
    ∙ command_by c.args.group c.args.bytes.now (Ended (amount field.number) field.len field.last) c.in_ok-field.ensures.end
