use Rattle.std.proofs.Common.{◌≡◌, ◌++◌, List, ℕ, length, drop, sym, ap, subst, ◌∙◌}
use Rattle.std.specs.Cmp.{unsigned_Decides}
use Rattle.std.proofs.lemmas.Bool.{both_ways}
use Rattle.std.proofs.lemmas.Slice.Eq.{starts_is}
use Rattle.pcl_items.specs.declared.item.Mode.{Mode}
use Rattle.pcl_items.specs.declared.item.Mode.TheVariants.{Pjl}
use Rattle.pcl_items.specs.Items.{PjlLine}
use Rattle.pcl_items.specs.PjlLines.View.{pjl_view}
use Rattle.pcl_lexer.specs.PjlLines.FirstView.{first_pjl_view}
use Rattle.pcl_spelling.specs.Spellings.Spelled.{StandsAt}
use Rattle.pcl_spelling.proofs.PjlLines.Spellings.{no_line_there, line_stands_there, other_line_there}
use Rattle.pcl_spelling.proofs.spelling.first_spelled_pjl.Goals as goal

pub returns-in_default : goal.returns-in_default
returns-in_default c = no_line_there c.args.bytes.now c.at_pjl.result c.requires c.at_pjl.ensures.first c.in_default.not-Begins

pub returns-then-starts_with : goal.returns-then-starts_with
returns-then-starts_with c =
    let bytes : List ℕ = c.args.bytes.now in
    let text : List ℕ = c.pjl_text-spelling.result.items in
    let line = pjl_view c.in-Begins.spelled.command in
    let found =
    (starts_is unsigned_Decides bytes c.as_slice.result.now c.starts_with.result c.starts_with.ensures.value).0 c.if-starts_with.true in
    let begins_so : bytes ≡ text ++ drop (length text) bytes =
    subst (λ (p : List ℕ). bytes ≡ p ++ drop (length p) bytes) c.as_slice.ensures.value found in
    subst (λ (len : ℕ). StandsAt Pjl bytes 0 (PjlLine line) len c.mode_behind.result) (sym c.len.ensures.value)
    (subst (λ (mode : Mode). StandsAt Pjl bytes 0 (PjlLine line) (length text) mode) (sym c.mode_behind.ensures)
    (line_stands_there bytes text line c.in-Begins.spelled.spelled c.pjl_text-spelling.ensures begins_so))

pub returns-else-starts_with : goal.returns-else-starts_with
returns-else-starts_with c =
    let bytes : List ℕ = c.args.bytes.now in
    let text : List ℕ = c.pjl_text-spelling.result.items in
    let starts = starts_is unsigned_Decides bytes c.as_slice.result.now c.starts_with.result c.starts_with.ensures.value in
    other_line_there bytes text (pjl_view c.in-Begins.spelled.command) c.in-Begins.field-1 c.requires
    (sym (ap first_pjl_view c.in-Begins.is) ∙ c.at_pjl.ensures.first) c.pjl_text-spelling.ensures
    (λ rest e.
    both_ways c.starts_with.result c.if-starts_with.false (starts.1 rest (e ∙ ap (λ t. t ++ rest) (sym c.as_slice.ensures.value))))
