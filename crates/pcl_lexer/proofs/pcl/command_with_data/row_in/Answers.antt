use Rattle.std.proofs.Common.{ap, arith}
use Rattle.pcl_lexer.specs.Lexing.FirstView.{context_view}
use Rattle.pcl_lexer.proofs.Escapes.ReadCommands.{row_behind}
use Rattle.pcl_lexer.proofs.pcl.command_with_data.row_in.Goals as goal

pub returns : goal.returns
returns c = (
  c.in-RasterRow.is,
  row_behind c.in_ok-read.read c.args.bytes.now (omega arith) (omega arith) (omega arith) (omega arith) c.in_ok-read.ensures,
  ap context_view c.in-Pcl.is,
)
