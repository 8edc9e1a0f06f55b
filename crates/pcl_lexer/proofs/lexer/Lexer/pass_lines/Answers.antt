use Rattle.std.proofs.Common.{◌+◌, subst}
use Rattle.std.specs.Prelude.{vec_len}
use Rattle.pcl_lexer.specs.Lexing.FirstView.{context_view}
use Rattle.pcl_lexer.specs.Lexing.State.{LexerState}
use Rattle.pcl_lexer.proofs.Lexing.Passed.{Passing, passed}
use Rattle.pcl_lexer.proofs.Lexing.Stepped.{standing}
use Rattle.pcl_lexer.proofs.lexer.Lexer.pass_lines.Goals as goal

pub returns : goal.returns
returns g c =
    let l = c.self.inside in
    let n = c.args.count in
    let new : LexerState = standing l.window.items (l.at + n) l.dropped (context_view l.context) l.ended (vec_len l.window) in
    subst (λ (old : LexerState). Passing n old new) c.self.view_is
    (passed l.window.items l.at l.dropped (context_view l.context) l.ended (vec_len l.window) n) c.requires.some
    c.requires.ahead c.requires.lines
