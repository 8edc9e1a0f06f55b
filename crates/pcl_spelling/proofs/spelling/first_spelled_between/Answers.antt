use Rattle.std.proofs.Common.{true, sym, ap, subst, ◌∙◌}
use Rattle.pcl_items.specs.declared.item.Mode.{Mode}
use Rattle.pcl_items.specs.declared.item.Mode.TheVariants.{Pcl}
use Rattle.pcl_lexer.specs.declared.lexer.first.First.TheVariants as firsts
use Rattle.pcl_items.specs.Items.{view}
use Rattle.pcl_lexer.specs.Lexing.FirstView.{context_view, first_view}
use Rattle.pcl_lexer.specs.Reader.{Begins}
use Rattle.pcl_spelling.specs.Spellings.Spelled.{StandsAt}
use Rattle.pcl_lexer.proofs.PjlLines.Heads.{pcl_has_line}
use Rattle.pcl_spelling.proofs.Spellings.ReadAgain.{byte_stands, no_item, spelled_stands}
use Rattle.pcl_spelling.proofs.spelling.first_spelled_between.Goals as goal

pub returns-in-Some : goal.returns-in-Some
returns-in-Some c =
    byte_stands c.args.bytes.now c.in-Some.item c.in-Some.ensures.first.1 (c.in-Some.ensures.first.0 true) c.in-Some.ensures.spelled

pub returns-in-Some-first_spelled_command : goal.returns-in-Some-first_spelled_command
returns-in-Some-first_spelled_command c = c.in-Some-first_spelled_command.ensures

pub returns-in_default-first_between : goal.returns-in_default-first_between
returns-in_default-first_between c =
    no_item c.args.bytes.now c.first_between.result (c.first_between.ensures.first true) c.in_default-first_between.not-Begins

pub with_its_data-requires-clause-line : goal.with_its_data-requires-clause-line
with_its_data-requires-clause-line c =
    let b = c.in-Begins in
    pcl_has_line (firsts.Begins b.len b.head b.next) c.args.bytes.now (b.ensures.first true)

pub returns : goal.returns
returns c =
    subst (λ (mode : Mode). StandsAt Pcl c.args.bytes.now 0 (view c.with_its_data.result) c.in-Begins.len mode) (sym c.mode.ensures)
    (spelled_stands c.args.bytes.now c.requires (view c.with_its_data.result) c.in-Begins.len (context_view c.in-Begins.next)
    (sym (c.first_between.ensures.first true) ∙ ap (first_view c.args.bytes.now) c.in-Begins.is
    ∙ ap (λ x. Begins x c.in-Begins.len (context_view c.in-Begins.next)) (sym c.with_its_data.ensures.item)))
