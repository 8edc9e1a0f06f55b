use Rattle.std.proofs.Common.{◌≡◌, ◌+◌, ◌∷◌, Option, sym, ap, subst, ◌∙◌}
use Rattle.pcl_items.specs.declared.pcl.command.Group.{Group}
use Rattle.pcl_lexer.specs.declared.lexer.first.First.TheVariants as firsts
use Rattle.pcl_lexer.specs.Lexing.FirstView.{first_view}
use Rattle.pcl_lexer.specs.Reader.{in_group}
use Rattle.pcl_lexer.proofs.PjlLines.Heads.{grouped_view}
use Rattle.pcl_lexer.proofs.lexer.first.grouped.Goals as goal

pub returns-in-Begins-clause-first : goal.returns-in-Begins-clause-first
returns-in-Begins-clause-first c =
    let b = c.in-Begins in
    let bytes = c.args.bytes.now in
    subst (λ (o : Option Group).
    first_view (27 ∷ c.args.introducer ∷ c.args.character ∷ bytes) (firsts.Begins (3 + b.len) b.item b.next)
    ≡ in_group o c.args.introducer c.args.character bytes)
    (sym c.in-Some.is ∙ c.of.ensures)
    (grouped_view c.in-Some.group 27 c.args.introducer c.args.character bytes b.len b.item b.next b.ensures.within.1
    (sym (ap (first_view bytes) b.is) ∙ c.command.ensures.first))
