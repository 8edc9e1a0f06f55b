use Rattle.std.proofs.Common.{◌≡◌, sym, subst}
use Rattle.pcl_lexer.specs.declared.lexer.first.Context.{Context}
use Rattle.pcl_lexer.specs.Lexing.FirstView.{context_view, first_view}
use Rattle.pcl_lexer.specs.Reader.{first_of}
use Rattle.pcl_lexer.proofs.lexer.ahead.first_in.Goals as goal

pub returns-in-Pcl-clause-first : goal.returns-in-Pcl-clause-first
returns-in-Pcl-clause-first c =
    subst
    (λ (context : Context).
    first_view c.args.bytes.now c.first_between.result ≡ first_of c.args.whole (context_view context) c.args.bytes.now)
    (sym c.in-Pcl.is) (c.first_between.ensures.first c.args.whole)

pub returns-in-Pjl-clause-first : goal.returns-in-Pjl-clause-first
returns-in-Pjl-clause-first c =
    subst
    (λ (context : Context). first_view c.args.bytes.now c.in_pjl.result ≡ first_of c.args.whole (context_view context) c.args.bytes.now)
    (sym c.in-Pjl.is) (c.in_pjl.ensures.first c.args.whole)
