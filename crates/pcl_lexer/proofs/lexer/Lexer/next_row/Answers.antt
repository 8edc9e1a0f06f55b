use Rattle.std.proofs.Common.{◌≡◌, ◌+◌, ◌-◌, ℕ, List, drop, take, length, refl, subst, sym, ap, ◌∙◌, arith}
use Rattle.std.specs.Prelude.{vec_len}
use Rattle.std.proofs.lemmas.List.{length-drop}
use Rattle.pcl_lexer.specs.declared.lexer.PlacedRow.{PlacedRow}
use Rattle.pcl_lexer.specs.Escapes.ReadCommands.{IsAheadWithData}
use Rattle.pcl_lexer.specs.Lexing.Contexts.{Context, Pcl}
use Rattle.pcl_lexer.specs.Lexing.FirstView.{context_view}
use Rattle.pcl_lexer.specs.Lexing.Meaning.{answer_of_row}
use Rattle.pcl_lexer.specs.Lexing.State.{LexerState}
use Rattle.pcl_lexer.specs.Lexing.Answers.{Answers}
use Rattle.pcl_lexer.proofs.Lexing.Stepped.{standing, row_is_answer}
use Rattle.pcl_lexer.proofs.Lexing.Steps.{is_next}
use Rattle.pcl_lexer.proofs.lexer.Lexer.next_row.Goals as goal

pub returns : goal.returns
returns g c =
    let l = c.self.inside in
    let read = c.in-Some.read in
    let window : List ℕ = l.window.items in
    let held = vec_len l.window in
    let row : PlacedRow = record { place = c.place-place.result; lent = c.data_before-lent.result } in
    let new : LexerState = standing window (l.at + read.len) l.dropped (context_view l.context) l.ended held in
    let next : context_view read.next ≡ context_view l.context = c.in-Some.ensures.2 ∙ sym (ap context_view c.in-Pcl.is) in
    let place : c.place-place.result ≡ l.dropped + l.at = c.place-place.ensures in
    let first : IsAheadWithData read Pcl (drop l.at window) =
    subst (λ (bytes : List ℕ). IsAheadWithData read Pcl bytes) c.unread.ensures c.in-Some.ensures.1 in
    let there : row.lent.bytes.now ≡ take read.count.bytes (drop (l.at + read.len - read.count.bytes) window) =
    c.data_before-lent.ensures
    ∙ ap (λ (bytes : List ℕ). take read.count.bytes (drop (l.at + read.len - read.count.bytes) bytes)) c.deref.ensures.value in
    let exact : Answers c.args.self.now (answer_of_row row) new =
    subst (λ (old : LexerState). Answers old (answer_of_row row) new) c.self.view_is
    (subst (λ (context : Context). Answers (standing window l.at l.dropped context l.ended held) (answer_of_row row) new)
    (sym (ap context_view c.in-Pcl.is))
    (subst
    (λ (context : Context). Answers (standing window l.at l.dropped Pcl l.ended held) (answer_of_row row)
    (standing window (l.at + read.len) l.dropped context l.ended held))
    next (row_is_answer window l.at l.dropped l.ended held read row c.in-Some.ensures.0 first place there))) in
    ((refl, λ _. tt, (is_next _ _ _ exact, sym (ap (λ (s : LexerState). s.context) c.self.view_is) ∙ ap context_view c.in-Pcl.is)), tt)

pub invariant_of-self-3 : goal.invariant_of-self-3
invariant_of-self-3 g c =
    let l = c.self.inside in
    let read = c.in-Some.read in
    let window : List ℕ = l.window.items in
    let first : IsAheadWithData read Pcl (drop l.at window) =
    subst (λ (bytes : List ℕ). IsAheadWithData read Pcl bytes) c.unread.ensures c.in-Some.ensures.1 in
    let before = c.self.invariant in
    (omega (arith, first.1.0, length-drop l.at window, before.0), before.1, before.2, omega (arith, before.3))

pub data_before-lent-requires-clause-inside : goal.data_before-lent-requires-clause-inside
data_before-lent-requires-clause-inside g c =
    let l = c.self.inside in
    let read = c.in-Some.read in
    let window : List ℕ = l.window.items in
    let first : IsAheadWithData read Pcl (drop l.at window) =
    subst (λ (bytes : List ℕ). IsAheadWithData read Pcl bytes) c.unread.ensures c.in-Some.ensures.1 in
    omega (arith, first.1.0, length-drop l.at window, c.self.invariant.0, ap length c.deref.ensures.value)

pub data_before-lent-requires-clause-there : goal.data_before-lent-requires-clause-there
data_before-lent-requires-clause-there g c = omega (arith, c.in-Some.ensures.1.1.1)
