use Rattle.std.proofs.Common.{◌≡◌, ◌++◌, List, ℕ, length, take, drop, ap, sym, subst, ◌∙◌}
use Rattle.std.specs.Cmp.{unsigned_Decides}
use Rattle.std.proofs.lemmas.Bool.{both_ways}
use Rattle.std.proofs.lemmas.List.{take_rest}
use Rattle.std.proofs.lemmas.Slice.Eq.{starts_is}
use Rattle.pcl_items.specs.declared.item.Mode.{Mode}
use Rattle.pcl_items.specs.declared.item.Mode.TheVariants.{Frame}
use Rattle.pcl_items.specs.Items.{view}
use Rattle.pcl_lexer.specs.Lexing.FirstView.{context_view, head_view}
use Rattle.pcl_spelling.specs.Spellings.Spelled.{StandsAt}
use Rattle.pcl_spelling.proofs.Frames.Spellings.{front_size, ahead_as, ahead_stands, ahead_differs, nothing_ahead}
use Rattle.pcl_spelling.proofs.PjlLines.Spellings.{no_line_ahead}
use Rattle.pcl_spelling.proofs.spelling.first_of_frame.Goals as goal

pub returns-in_default : goal.returns-in_default
returns-in_default c =
    nothing_ahead c.args.bytes.now c.min.result c.next_ahead-ahead.result
    (front_size (length c.args.bytes.now) c.min.result c.min.ensures) c.next_ahead-ahead.ensures c.in_default.not-Begins

pub returns-then-starts_with : goal.returns-then-starts_with
returns-then-starts_with c =
    let bytes : List ℕ = c.args.bytes.now in
    let text : List ℕ = c.head_text-text.result.items in
    let item = c.with_its_data-item in
    let item_is =
    item.ensures.item
    ∙ ap (head_view c.in-Begins.head c.in-Begins.len) (take_rest (take c.min.result bytes) c.next_ahead-ahead.result.start) in
    let read =
    ahead_as (take c.min.result bytes) text item.result c.next_ahead-ahead.result c.in-Begins.head c.in-Begins.len c.in-Begins.next
    c.next_ahead-ahead.ensures c.in-Begins.is item_is c.head_text-text.ensures in
    let found =
    (starts_is unsigned_Decides bytes c.as_slice.result.now c.starts_with.result c.starts_with.ensures.value).0 c.if-starts_with.true in
    let begins_so : bytes ≡ text ++ drop (length text) bytes =
    subst (λ (p : List ℕ). bytes ≡ p ++ drop (length p) bytes) c.as_slice.ensures.value found in
    subst (λ (len : ℕ). StandsAt Frame bytes 0 (view item.result) len c.mode.result) (sym c.len.ensures.value)
    (subst (λ (mode : Mode). StandsAt Frame bytes 0 (view item.result) (length text) mode) (sym c.mode.ensures)
    (ahead_stands bytes (take c.min.result bytes) text (view item.result) c.next_ahead-ahead.result
    (context_view c.in-Begins.next) read begins_so))

pub returns-else-starts_with : goal.returns-else-starts_with
returns-else-starts_with c =
    let bytes : List ℕ = c.args.bytes.now in
    let text : List ℕ = c.head_text-text.result.items in
    let item = c.with_its_data-item in
    let item_is =
    item.ensures.item
    ∙ ap (head_view c.in-Begins.head c.in-Begins.len) (take_rest (take c.min.result bytes) c.next_ahead-ahead.result.start) in
    let read =
    ahead_as (take c.min.result bytes) text item.result c.next_ahead-ahead.result c.in-Begins.head c.in-Begins.len c.in-Begins.next
    c.next_ahead-ahead.ensures c.in-Begins.is item_is c.head_text-text.ensures in
    let starts = starts_is unsigned_Decides bytes c.as_slice.result.now c.starts_with.result c.starts_with.ensures.value in
    ahead_differs bytes c.min.result text (view item.result) c.next_ahead-ahead.result (context_view c.in-Begins.next)
    (front_size (length bytes) c.min.result c.min.ensures) c.next_ahead-ahead.ensures read
    (λ rest e.
    both_ways c.starts_with.result c.if-starts_with.false (starts.1 rest (e ∙ ap (λ t. t ++ rest) (sym c.as_slice.ensures.value))))

pub head_text-text-requires : goal.head_text-text-requires
head_text-text-requires c =
    let front : List ℕ = take c.min.result c.args.bytes.now in
    let item = c.with_its_data-item in
    let item_is = item.ensures.item ∙ ap (head_view c.in-Begins.head c.in-Begins.len) (take_rest front c.next_ahead-ahead.result.start) in
    no_line_ahead front item.result c.next_ahead-ahead.result c.in-Begins.head c.in-Begins.len c.in-Begins.next
    c.next_ahead-ahead.ensures c.in-Begins.is item_is
