use Rattle.std.proofs.Common.{◌≡◌, ◌∙◌, Some, sym, get_or, arith}
use Rattle.pcl_items.specs.Escapes.Commands.{group_at}
use Rattle.pcl_lexer.proofs.Escapes.ReadCommands.{command_behind}
use Rattle.pcl_lexer.proofs.pcl.parameterized.short_in.Goals as goal

pub returns : goal.returns
returns c =
    let bytes = c.args.bytes.now in
    let known : group_at (get_or bytes 1 0) (get_or bytes 2 0) ≡ Some c.in_ok-begun.begun = sym c.of.ensures ∙ c.in_ok-begun.was in
    command_behind c.in_ok-read.read c.in_ok-begun.begun bytes (omega arith) (omega arith) known c.in_ok-read.ensures.ahead
