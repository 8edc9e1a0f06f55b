use Rattle.std.proofs.Common.{◌≡◌, ◌+◌, ◌≤◌, ◌^◌, ◌∙◌, false, length, drop, ap, sym, subst, arith}
use Rattle.std.specs.Prelude.{vec_len}
use Rattle.pcl_lexer.specs.Lexing.FirstView.{context_view}
use Rattle.pcl_lexer.specs.Lexing.State.{most_open}
use Rattle.pcl_lexer.specs.Lexing.Meaning.{HasRead}
use Rattle.pcl_lexer.proofs.Lexing.Bounds.{open_is_short}
use Rattle.pcl_lexer.proofs.Lexing.Stepped.{standing}
use Rattle.pcl_lexer.proofs.Lexing.Steps.{slid}
use Rattle.pcl_lexer.proofs.lexer.Lexer.feed.Goals as goal

pub invariant_of-self-2 : goal.invariant_of-self-2
invariant_of-self-2 g c =
    let old = c.args.self.now in
    let piece = c.args.piece.now in
    let rest = drop c.self.inside.at c.self.inside.window.items in
    let short : length rest ≤ most_open =
    subst (λ s. length s.rest ≤ most_open) (sym c.self.view_is) (open_is_short old.context old.rest c.requires.wants_more) in
    let total : c.self.inside.dropped + c.self.inside.at + length rest + length piece ≤ 2 ^ 62 =
    subst (λ s. s.place + length s.rest + length piece ≤ 2 ^ 62) (sym c.self.view_is) c.requires.total in
    let new = c.in_ok-slide_in.ensures.len in
    (omega arith, omega (arith, new, short, c.requires.piece), omega (arith, new, total), omega arith)

pub returns-clause-reads : goal.returns-clause-reads
returns-clause-reads g c = λ bytes items r.
    let l = c.self.inside in
    let before : HasRead (standing l.window.items l.at l.dropped (context_view l.context) l.ended (vec_len l.window)) bytes items =
    subst (λ s. HasRead s bytes items) (sym c.self.view_is) r in
    let open_input : l.ended ≡ false = ap (λ s. s.ended) c.self.view_is ∙ c.requires.open in
    record {
      reads =
          slid l.ended bytes c.args.piece.now (drop l.at l.window.items) c.slide_in.new.window.items items (context_view l.context)
          (l.dropped + l.at) (l.dropped + l.at + 0)
          open_input (omega arith) c.in_ok-slide_in.ensures.ok before.reads;
    }
