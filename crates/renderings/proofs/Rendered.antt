-- What a piece and the end make of a job that is rendered as it is taken.
use Rattle.std.proofs.Common.{◌≡◌, ◌+◌, ℕ, true, false, List, [], ◌∷◌, ◌++◌, length, refl, sym, subst, append-nil, Option, None, Some}
use Rattle.std.proofs.Common.{Result, Ok, Err, IfOk, IfErr, IsErrAnd}
use Rattle.pcl_items.specs.declared.item.Mode.{Mode}
use Rattle.pcl_lexer.specs.Lexing.State.{LexerState, WantsMore}
use Rattle.pcl_lexer.specs.Modes.{mode_of}
use Rattle.streams.specs.declared.error.Error.{Error}
use Rattle.streams.specs.declared.error.Error.TheVariants.{Memory, Read, Write, Turns, NoProfile, Items}
use Rattle.renderings.specs.declared.outcome.Outcome.{Outcome}
use Rattle.renderings.specs.Expected.{Rendering}
use Rattle.streams.specs.Errors.{is_err_of_write}
use Rattle.streams.specs.Outlet.{OutletState}
use Rattle.streams.specs.Pieces.{MayBeBy, Spell}
use Rattle.streams.specs.Driving.{ComesByPiece, IsErrorOfPiece}
use Rattle.renderings.specs.Carriers.Rendering.{RenderedTo, HasEnded, IsErrorOfRendering}
use Rattle.renderings.specs.Carriers.Rendered.{IsCutOff, IsRendered, RendersOn}
use Rattle.renderings.proofs.Renderings.{Puts-all}

-- an error of the rendering is one of what takes the pieces
own_error : (e : Error) → IsErrorOfRendering e → IsErrorOfPiece e
own_error Memory h = tt
own_error Read h = absurd h
own_error Write h = tt
own_error Turns h = absurd h
own_error NoProfile h = absurd h
own_error Items h = absurd h

module _ {C : Type 0} (goes_on : C → List ℕ → C → Type 0) (answers : C → Outcome → List (List ℕ) → C → Type 0)
    (stops : C → Error → List ℕ → C → Type 0) (one now : C) (first : Rendering) (start : OutletState) (lexer : LexerState)
    (rendering : Rendering) (written : OutletState) where
  -- a piece was rendered
  module _ (is_in : Mode → Type 0) (kept : List ℕ) (total total' : ℕ) (bytes piece : List ℕ)
      (on : RendersOn first start is_in (bytes ++ piece) rendering written kept total total' lexer → goes_on one (bytes ++ piece) now)
      (over : (outcome : Outcome) (pieces : List (List ℕ)) → IsRendered first start pieces written outcome → answers one outcome pieces now)
      (cut : (error : Error) → IsCutOff first start (bytes ++ piece) written error → stops one error (bytes ++ piece) now)
      (begun : total ≡ 0) (total_is : total' ≡ total + length (bytes ++ piece)) (open_input : lexer.ended ≡ false)
      (fed : lexer.place + length lexer.rest ≡ total') where
    pub rendered_piece : (r : Result (Option Outcome) Error) → RenderedTo first start false (bytes ++ piece) lexer rendering written [] r →
        IfOk r (λ _. kept ≡ []) → (r ≡ Ok None → WantsMore lexer × is_in (mode_of lexer.context)) → written.failed ≡ is_err_of_write r →
        IfErr r IsErrorOfRendering → ComesByPiece goes_on answers stops one bytes piece now r
    rendered_piece (Ok None) came none more status err =
        let goes = more refl in
        on (record {
          rendered = came.0;
          no_more = came.1;
          total_is = total_is;
          begun = begun;
          working = status;
          nothing_kept = none;
          mode = goes.1;
          open_input = open_input;
          wants_more = goes.0;
          fed = fed;
        })
    rendered_piece (Ok (Some outcome)) came none more status err = λ pieces spelled.
        over outcome pieces (record {
          text = came.0;
          adds = Puts-all start written came.0 came.1;
          due = λ job may.
              let split = spelled.leads [] job (subst (λ ps. MayBeBy ps job) (sym (append-nil pieces)) may) in
              came.2 job (split.0, split.1, λ e. let both : false ≡ true = e in absurd cc);
          working = status;
        })
    rendered_piece (Err e) came none more status err = (cut e (record { front = came; status = status }), own_error e err)

-- a piece was not fed
pub unrendered_piece : {C A : Type 0} (goes_on : C → List ℕ → C → Type 0) (answers : C → A → List (List ℕ) → C → Type 0)
    (stops : C → Error → List ℕ → C → Type 0) (one now : C) (bytes piece : List ℕ) (r : Result (Option A) Error) →
    IsErrAnd r (λ e. e ≡ Memory) → stops one Memory (bytes ++ piece) now → ComesByPiece goes_on answers stops one bytes piece now r
unrendered_piece goes_on answers stops one now bytes piece (Ok came) is h = absurd is
unrendered_piece goes_on answers stops one now bytes piece (Err e) is h =
    (subst (λ x. stops one x (bytes ++ piece) now) (sym is) h, subst IsErrorOfPiece (sym is) tt)

-- the end was rendered
pub rendered_end : (first : Rendering) (start written : OutletState) (bytes : List ℕ) (outcome : Outcome) →
    HasEnded first start true bytes written [] outcome → written.failed ≡ false → (pieces : List (List ℕ)) → Spell pieces bytes →
    IsRendered first start (pieces ++ [] ∷ []) written outcome
rendered_end first start written bytes outcome came working pieces spelled = record {
  text = came.0;
  adds = Puts-all start written came.0 came.1;
  due = λ job may.
      let split = spelled.leads ([] ∷ []) job may in
      came.2 job (split.0, split.1, λ _. split.2);
  working = working;
}
