use Rattle.std.proofs.Common.{◌∙◌}
use Rattle.pcl_lexer.specs.Escapes.FieldEnd.{Open, BadNumber, Ended}
use Rattle.pcl_items.specs.Items.{amount}
use Rattle.pcl_lexer.proofs.Escapes.FieldEnds.{command_by}
use Rattle.pcl_lexer.proofs.lexer.first.command.Goals as goal

pub returns-in-Open-clause-first : goal.returns-in-Open-clause-first
returns-in-Open-clause-first c = command_by c.args.group c.args.bytes.now Open c.in-Open.ensures.end

pub returns-in-BadNumber-clause-first : goal.returns-in-BadNumber-clause-first
returns-in-BadNumber-clause-first c = command_by c.args.group c.args.bytes.now BadNumber c.in-BadNumber.ensures.end

pub returns-in-Ended-clause-first : goal.returns-in-Ended-clause-first
returns-in-Ended-clause-first c =
    let field = c.in-Ended.field in
    c.ended_command.ensures.first
    ∙ command_by c.args.group c.args.bytes.now (Ended (amount field.number) field.len field.last) c.in-Ended.ensures.end
