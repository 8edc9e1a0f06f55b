use Rattle.std.proofs.Common.{◌-◌, true, List, ℕ, length, take, ap, sym, subst, ◌∙◌}
use Rattle.std.specs.Cmp.{unsigned_Decides}
use Rattle.std.proofs.lemmas.Bool.{both_ways}
use Rattle.std.proofs.lemmas.Slice.Eq.{slice_eq-Decides}
use Rattle.pcl_items.specs.declared.item.Mode.{Mode}
use Rattle.pcl_items.specs.declared.item.Mode.TheVariants.{Pcl}
use Rattle.pcl_lexer.specs.declared.lexer.first.First.TheVariants as firsts
use Rattle.pcl_items.specs.Items.{view}
use Rattle.pcl_lexer.specs.Lexing.FirstView.{context_view, first_view}
use Rattle.pcl_lexer.specs.Reader.{Begins}
use Rattle.pcl_lexer.proofs.PjlLines.Heads.{pcl_has_line}
use Rattle.pcl_spelling.proofs.PjlLines.Spellings.{no_line_read}
use Rattle.pcl_spelling.specs.Spellings.Spelled.{StandsAt}
use Rattle.pcl_spelling.proofs.Spellings.ReadAgain.{byte_stands, no_item, read_as, spelling_stands, no_spelling}
use Rattle.pcl_spelling.proofs.spelling.first_item.Goals as goal

pub returns-in-Some : goal.returns-in-Some
returns-in-Some c =
    byte_stands c.args.bytes.now c.in-Some.item c.in-Some.ensures.first.1 (c.in-Some.ensures.first.0 true) c.in-Some.ensures.spelled

pub returns-in_default-first_between : goal.returns-in_default-first_between
returns-in_default-first_between c =
    no_item c.args.bytes.now c.first_between.result (c.first_between.ensures.first true) c.in_default-first_between.not-Begins

pub returns-then-eq : goal.returns-then-eq
returns-then-eq c =
    let bytes : List ℕ = c.args.bytes.now in
    let len : ℕ = c.in-Begins.len in
    let item = c.with_its_data-item in
    let equal =
    (slice_eq-Decides unsigned_Decides (take (len - length c.data_of.result.now) bytes) c.as_slice.result.now c.eq.result c.eq.ensures).0
    c.if-eq.true in
    subst (λ (mode : Mode). StandsAt Pcl bytes 0 (view item.result) len mode) (sym c.mode.ensures)
    (spelling_stands bytes c.head_text-text.result.items (view item.result) len (context_view c.in-Begins.next)
    (read_as bytes c.head_text-text.result.items item.result c.first_between.result c.in-Begins.head len c.in-Begins.next
    (c.first_between.ensures.first true) c.in-Begins.is item.ensures.item c.in-Begins.ensures.within.0 item.ensures.last
    c.head_text-text.ensures)
    (ap (λ d. take (len - length d) bytes) (sym c.data_of.ensures.data) ∙ equal ∙ c.as_slice.ensures.value))

pub returns-else-eq : goal.returns-else-eq
returns-else-eq c =
    let bytes : List ℕ = c.args.bytes.now in
    let len : ℕ = c.in-Begins.len in
    let item = c.with_its_data-item in
    let test =
    slice_eq-Decides unsigned_Decides (take (len - length c.data_of.result.now) bytes) c.as_slice.result.now c.eq.result c.eq.ensures in
    no_spelling bytes c.head_text-text.result.items (view item.result) len (context_view c.in-Begins.next)
    (read_as bytes c.head_text-text.result.items item.result c.first_between.result c.in-Begins.head len c.in-Begins.next
    (c.first_between.ensures.first true) c.in-Begins.is item.ensures.item c.in-Begins.ensures.within.0 item.ensures.last
    c.head_text-text.ensures)
    (λ same. both_ways c.eq.result c.if-eq.false
    (test.1 (ap (λ d. take (len - length d) bytes) c.data_of.ensures.data ∙ same ∙ sym c.as_slice.ensures.value)))

pub head_text-text-requires : goal.head_text-text-requires
head_text-text-requires c =
    let b = c.in-Begins in
    no_line_read c.args.bytes.now (view c.with_its_data-item.result) b.len (context_view b.next)
    (sym (c.first_between.ensures.first true) ∙ ap (first_view c.args.bytes.now) b.is
    ∙ ap (λ x. Begins x b.len (context_view b.next)) (sym c.with_its_data-item.ensures.item))

pub with_its_data-item-requires-clause-line : goal.with_its_data-item-requires-clause-line
with_its_data-item-requires-clause-line c =
    let b = c.in-Begins in
    pcl_has_line (firsts.Begins b.len b.head b.next) c.args.bytes.now (b.ensures.first true)
