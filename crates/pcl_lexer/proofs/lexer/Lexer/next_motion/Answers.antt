use Rattle.std.proofs.Common.{◌≡◌, ◌+◌, ℕ, List, drop, None, Result, Ok, subst, sym, ap, ◌∙◌, arith}
use Rattle.std.specs.Prelude.{vec_len}
use Rattle.std.proofs.lemmas.List.{length-drop}
use Rattle.pcl_items.specs.declared.fault.LexFault.{LexFault}
use Rattle.pcl_items.specs.declared.item.Item.TheVariants as items
use Rattle.pcl_items.specs.declared.item.SimpleItem.TheVariants as simple
use Rattle.pcl_lexer.specs.declared.lexer.lexed.Lexed.{Lexed}
use Rattle.pcl_lexer.specs.declared.lexer.lexed.Lexed.TheVariants as answers
use Rattle.pcl_lexer.specs.Lexing.Contexts.{Frame}
use Rattle.pcl_lexer.specs.Lexing.FirstView.{context_view}
use Rattle.pcl_lexer.specs.Lexing.State.{LexerState}
use Rattle.pcl_lexer.specs.Lexing.Answers.{Answers}
use Rattle.pcl_lexer.specs.Frames.Pairs.{IsBareAhead}
use Rattle.pcl_lexer.proofs.Lexing.Stepped.{standing, bare_is_answer}
use Rattle.pcl_lexer.proofs.Lexing.Steps.{is_next}
use Rattle.pcl_lexer.proofs.lexer.Lexer.next_motion.Goals as goal

pub returns-clause-motion : goal.returns-clause-motion
returns-clause-motion g c =
    let l = c.self.inside in
    let read = c.in-Some.read in
    let window : List ℕ = l.window.items in
    let held = vec_len l.window in
    let result : Result Lexed LexFault = Ok (answers.Item read.place (items.Simple (simple.Move read.motion None))) in
    let new : LexerState = standing window (l.at + read.len) l.dropped Frame l.ended held in
    let place : c.place.result ≡ l.dropped + l.at = c.place.ensures ∙ sym (ap (λ (s : LexerState). s.place) c.self.view_is) in
    let there : IsBareAhead read (context_view l.context) c.place.result (drop l.at window) =
    subst (λ (bytes : List ℕ). IsBareAhead read (context_view l.context) c.place.result bytes)
    (c.unread.ensures ∙ sym (ap (λ (s : LexerState). s.rest) c.self.view_is)) c.in-Some.ensures in
    let first : IsBareAhead read (context_view l.context) (l.dropped + l.at) (drop l.at window) =
    subst (λ (n : ℕ). IsBareAhead read (context_view l.context) n (drop l.at window)) place there in
    let exact : Answers c.args.self.now result new =
    subst (λ (old : LexerState). Answers old result new) c.self.view_is
    (bare_is_answer window l.at l.dropped (context_view l.context) l.ended held read first) in
    is_next _ _ _ exact

pub invariant_of-self : goal.invariant_of-self
invariant_of-self g c =
    let l = c.self.inside in
    let read = c.in-Some.read in
    let window : List ℕ = l.window.items in
    let there : IsBareAhead read (context_view l.context) c.place.result (drop l.at window) =
    subst (λ (bytes : List ℕ). IsBareAhead read (context_view l.context) c.place.result bytes)
    (c.unread.ensures ∙ sym (ap (λ (s : LexerState). s.rest) c.self.view_is)) c.in-Some.ensures in
    let before = c.self.invariant in
    (omega (arith, there.within, length-drop l.at window, before.0), before.1, before.2, omega arith)
