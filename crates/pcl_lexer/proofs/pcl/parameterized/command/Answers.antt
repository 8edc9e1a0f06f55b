use Rattle.pcl_lexer.proofs.Escapes.ReadCommands.{in_group}
use Rattle.pcl_lexer.proofs.pcl.parameterized.command.Goals as goal

pub returns : goal.returns
returns c =
    in_group c.ended_command.result c.args.group c.in-Ended.field c.args.bytes.now c.in-Ended.ensures.end c.in-Ended.ensures.within.1
    c.ended_command.ensures.ends
