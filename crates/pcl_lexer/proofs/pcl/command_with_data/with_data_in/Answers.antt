use Rattle.std.proofs.Common.{◌≡◌, ℕ, List, subst, sym, ap, get_or, arith}
use Rattle.std.specs.Prelude.{IfSome}
use Rattle.pcl_lexer.specs.Lexing.Contexts.{Context, Pcl}
use Rattle.pcl_lexer.specs.Lexing.FirstView.{context_view}
use Rattle.pcl_lexer.specs.Escapes.ReadCommands.{IsAheadWithData}
use Rattle.pcl_lexer.proofs.Escapes.ReadCommands.{behind_escape}
use Rattle.pcl_lexer.proofs.pcl.command_with_data.with_data_in.Goals as goal

pub returns-in-27 : goal.returns-in-27
returns-in-27 c =
    let bytes = c.args.bytes.now in
    let is_escape : get_or bytes 0 0 ≡ 27 = omega arith in
    subst (λ (context : Context). IfSome c.escaped.result (λ read. IsAheadWithData read context bytes)) (sym (ap context_view c.in-Pcl.is))
    (subst (λ (l : List ℕ). IfSome c.escaped.result (λ read. IsAheadWithData read Pcl l))
    (behind_escape bytes c.in-27.len_at_least is_escape) c.escaped.ensures)
