use Rattle.std.proofs.Common.{ap, arith, length, length-append}
use Rattle.command_line.proofs.texts.are_none.Goals as goal

pub returns-in-len1-up : goal.returns-in-len1-up
returns-in-len1-up c no_false empty =
    omega (arith, c.in-len1-up.len_at_least, length-append c.args.printers.now c.args.fleets.now, ap length empty)
