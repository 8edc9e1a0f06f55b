use Rattle.std.proofs.Common.{◌≡◌, ◌+◌, ℕ, List, [], ◌∷◌, drop, subst, refl, sym, ap, ◌∙◌}
use Rattle.std.specs.Prelude.{vec_len}
use Rattle.std.proofs.lemmas.List.{take_rest}
use Rattle.pcl_items.specs.Items.{Entry, view}
use Rattle.pcl_items.specs.Items as entries
use Rattle.pcl_lexer.specs.Reader.{Begins}
use Rattle.pcl_lexer.specs.Lexing.FirstView.{context_view, head_view, first_view}
use Rattle.pcl_lexer.specs.Lexing.Ahead.{StandsAhead}
use Rattle.pcl_lexer.specs.Lexing.State.{LexerState}
use Rattle.pcl_lexer.specs.Lexing.Answers.{AdvancesOver}
use Rattle.pcl_lexer.proofs.Lexing.Stepped.{standing, item_ahead}
use Rattle.pcl_lexer.proofs.lexer.Lexer.step.Goals as goal

pub returns-in-Begins : goal.returns-in-Begins
returns-in-Begins g c =
    let l = c.self.inside in
    let w = c.in-Begins in
    let ahead = c.next_ahead-start.result in
    let window : List ℕ = l.window.items in
    let held = vec_len l.window in
    let h : StandsAhead l.ended (context_view l.context) l.at window ahead =
    subst
    (λ (bytes : List ℕ). StandsAhead l.ended (context_view l.context) l.at bytes ahead) c.deref.ensures.value c.next_ahead-start.ensures in
    let entry : Entry = view c.with_its_data-item.result in
    let entry_is : entry ≡ head_view w.head w.len (drop ahead.start window) =
    c.with_its_data-item.ensures.item
    ∙ ap (head_view w.head w.len) (take_rest _ ahead.start ∙ ap (drop ahead.start) c.deref-in-Begins.ensures.value) in
    let first : first_view (drop ahead.start window) ahead.first ≡ Begins entry w.len (context_view w.next) =
    ap (first_view (drop ahead.start window)) w.is ∙ ap (λ (e : Entry). Begins e w.len (context_view w.next)) (sym entry_is) in
    let exact : AdvancesOver c.args.self.now (entries.at c.item_place-place.result entry ∷ [])
    (standing window (ahead.start + w.len) l.dropped (context_view w.next) l.ended held) =
    subst
    (λ (old : LexerState). AdvancesOver old (entries.at c.item_place-place.result entry ∷ [])
    (standing window (ahead.start + w.len) l.dropped (context_view w.next) l.ended held))
    c.self.view_is
    (item_ahead window l.at l.dropped (context_view l.context) l.ended held ahead h entry w.len
    (context_view w.next) c.item_place-place.result c.item_place-place.ensures first) in
    ((refl, λ _. tt, exact), tt)
