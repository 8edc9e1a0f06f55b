use Rattle.std.proofs.Common.{◌≡◌, ◌+◌, ℕ, List, drop, Result, Ok, subst, sym, ap, ◌∙◌}
use Rattle.std.specs.Prelude.{vec_len}
use Rattle.pcl_items.specs.declared.fault.LexFault.{LexFault}
use Rattle.pcl_items.specs.declared.item.Item.TheVariants as items
use Rattle.pcl_lexer.specs.declared.lexer.lexed.Lexed.{Lexed}
use Rattle.pcl_lexer.specs.declared.lexer.lexed.Lexed.TheVariants as answers
use Rattle.pcl_lexer.specs.Lexing.Ahead.{StandsFirst}
use Rattle.pcl_lexer.specs.Lexing.Contexts.{Context}
use Rattle.pcl_lexer.specs.Lexing.FirstView.{context_view}
use Rattle.pcl_lexer.specs.Lexing.State.{LexerState}
use Rattle.pcl_lexer.specs.Lexing.Answers.{Answers}
use Rattle.pcl_lexer.proofs.Lexing.Stepped.{standing, unit_is_answer}
use Rattle.pcl_lexer.proofs.Lexing.Steps.{is_next}
use Rattle.pcl_lexer.proofs.lexer.Lexer.next_sequence.Goals as goal

pub returns-clause-sequence : goal.returns-clause-sequence
returns-clause-sequence g c =
    let l = c.self.inside in
    let item = items.Simple c.in_ok-item.item in
    let window : List ℕ = l.window.items in
    let held = vec_len l.window in
    let result : ℕ → Result Lexed LexFault = λ place. Ok (answers.Item place item) in
    let new : LexerState = standing window (l.at + 2) l.dropped (context_view l.context) l.ended held in
    let place : l.dropped + l.at ≡ c.place-place.result = ap (λ (s : LexerState). s.place) c.self.view_is ∙ sym c.place-place.ensures in
    let first : StandsFirst item 2 (drop l.at window) =
    subst (λ (bytes : List ℕ). StandsFirst item 2 bytes)
    (c.unread.ensures ∙ sym (ap (λ (s : LexerState). s.rest) c.self.view_is)) c.in_ok-item.ensures in
    let exact : Answers c.args.self.now (result c.place-place.result) new =
    subst (λ (n : ℕ). Answers c.args.self.now (result n) new) place
    (subst (λ (old : LexerState). Answers old (result (l.dropped + l.at)) new) c.self.view_is
    (subst
    (λ (context : Context). Answers (standing window l.at l.dropped context l.ended held) (result (l.dropped + l.at))
    (standing window (l.at + 2) l.dropped context l.ended held))
    (sym (ap context_view c.in-Pcl.is))
    (unit_is_answer window l.at l.dropped 2 l.ended held item first))) in
    is_next _ _ _ exact
