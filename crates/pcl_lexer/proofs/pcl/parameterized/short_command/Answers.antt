use Rattle.pcl_lexer.proofs.Escapes.ReadCommands.{in_group}
use Rattle.pcl_lexer.proofs.pcl.parameterized.short_command.Goals as goal

pub returns-clause-ahead : goal.returns-clause-ahead
returns-clause-ahead c =
    in_group c.ended_command.result c.args.group c.in_ok-field.field c.args.bytes.now c.in_ok-field.ensures.end
    c.in_ok-field.ensures.within.1 c.ended_command.ensures.ends
