use Rattle.std.proofs.Common.{◌≡◌, ◌+◌, ℕ, List, drop, Some, Result, Ok, subst, sym, ap, ◌∙◌, arith}
use Rattle.std.specs.Prelude.{vec_len}
use Rattle.std.proofs.lemmas.Bool.{not-false}
use Rattle.std.proofs.lemmas.List.{length-drop}
use Rattle.pcl_items.specs.declared.fault.LexFault.{LexFault}
use Rattle.pcl_items.specs.declared.frame.Motion.TheVariants.{Down}
use Rattle.pcl_lexer.specs.declared.frame.Gap.TheVariants.{Straight}
use Rattle.pcl_items.specs.declared.item.Item.TheVariants as items
use Rattle.pcl_items.specs.declared.item.SimpleItem.TheVariants as simple
use Rattle.pcl_lexer.specs.declared.lexer.lexed.Lexed.{Lexed}
use Rattle.pcl_lexer.specs.declared.lexer.lexed.Lexed.TheVariants as answers
use Rattle.pcl_lexer.specs.Lexing.Contexts.{Context, Numbered, Even}
use Rattle.pcl_lexer.specs.Lexing.FirstView.{context_view}
use Rattle.pcl_lexer.specs.Lexing.State.{LexerState}
use Rattle.pcl_lexer.specs.Lexing.Answers.{Answers}
use Rattle.pcl_lexer.specs.Frames.Pairs.{IsPairAhead}
use Rattle.pcl_lexer.proofs.Lexing.Stepped.{standing, pair_is_answer}
use Rattle.pcl_lexer.proofs.Lexing.Steps.{is_next}
use Rattle.pcl_lexer.proofs.lexer.Lexer.next_further.Goals as goal

pub returns-clause-pair : goal.returns-clause-pair
returns-clause-pair g c =
    let l = c.self.inside in
    let read = c.in-Some.read in
    let window : List ℕ = l.window.items in
    let held = vec_len l.window in
    let result : Result Lexed LexFault = Ok (answers.Item read.place (items.Simple (simple.Move read.motion (Some read.to)))) in
    let down : Context = Numbered (Even Down) Straight 0 in
    let behind : Context = Numbered (Even read.motion) Straight 0 in
    let place : c.place.result ≡ l.dropped + l.at = c.place.ensures ∙ sym (ap (λ (s : LexerState). s.place) c.self.view_is) in
    let there : IsPairAhead read down c.place.result (drop l.at window) =
    subst (λ (bytes : List ℕ). IsPairAhead read down c.place.result bytes)
    (c.unread.ensures ∙ sym (ap (λ (s : LexerState). s.rest) c.self.view_is)) c.in-Some.ensures in
    let first : IsPairAhead read down (l.dropped + l.at) (drop l.at window) =
    subst (λ (n : ℕ). IsPairAhead read down n (drop l.at window)) place there in
    let stood : context_view l.context ≡ down = ap (λ (s : LexerState). s.context) c.self.view_is ∙ c.requires in
    let same : behind ≡ context_view l.context = sym (first.same (not-false read.is_further c.if-not-read.false)) ∙ sym stood in
    let exact : Answers c.args.self.now result (standing window (l.at + read.len) l.dropped behind l.ended held) =
    subst (λ (old : LexerState). Answers old result (standing window (l.at + read.len) l.dropped behind l.ended held)) c.self.view_is
    (subst (λ (context : Context). Answers (standing window l.at l.dropped context l.ended held) result
    (standing window (l.at + read.len) l.dropped behind l.ended held)) (sym stood)
    (pair_is_answer window l.at l.dropped down l.ended held read first)) in
    is_next _ _ _
    (subst (λ (context : Context). Answers c.args.self.now result (standing window (l.at + read.len) l.dropped context l.ended held))
    same exact)

pub invariant_of-self : goal.invariant_of-self
invariant_of-self g c =
    let l = c.self.inside in
    let read = c.in-Some.read in
    let window : List ℕ = l.window.items in
    let down : Context = Numbered (Even Down) Straight 0 in
    let there : IsPairAhead read down c.place.result (drop l.at window) =
    subst (λ (bytes : List ℕ). IsPairAhead read down c.place.result bytes)
    (c.unread.ensures ∙ sym (ap (λ (s : LexerState). s.rest) c.self.view_is)) c.in-Some.ensures in
    let before = c.self.invariant in
    (omega (arith, there.within, length-drop l.at window, before.0), before.1, before.2, omega (arith, before.3))
