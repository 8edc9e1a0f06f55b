-- How a job is rendered as it is taken.
use Rattle.std.specs.Prelude.{◌≡◌, ◌+◌, ◌≤◌, ◌^◌, ℕ, List, [], length, Bool, false}
use Rattle.pcl_items.specs.declared.item.Mode.{Mode}
use Rattle.pcl_lexer.specs.Lexing.State.{LexerState, WantsMore}
use Rattle.pcl_lexer.specs.Lexing.Meaning.{Undecided}
use Rattle.pcl_lexer.specs.Modes.{mode_of}
use Rattle.streams.specs.declared.error.Error.{Error}
use Rattle.renderings.specs.declared.outcome.Outcome.{Outcome}
use Rattle.renderings.specs.Expected.{Rendering, IsExpected}
use Rattle.streams.specs.Errors.{is_write}
use Rattle.streams.specs.Outlet.{OutletState, Adds}
use Rattle.streams.specs.Pieces.{MayBeBy}
use Rattle.renderings.specs.Carriers.Rendering.{HasRendered, IsFrontFor}

-- It wants more, all that was rendered is written, and all bytes together with so many more are at most 2^62.
pub record CanRender (is_in : Mode → Type 0) (failed : Bool) (kept : List ℕ) (total : ℕ)
    (lexer : LexerState) (more : ℕ) : Type 0 where
  pub working : failed ≡ false
  pub nothing_kept : kept ≡ []
  pub mode : is_in (mode_of lexer.context)
  pub open_input : lexer.ended ≡ false
  pub wants_more : WantsMore lexer
  pub fed : lexer.place + length lexer.rest ≡ total
  pub most : total + more ≤ 2 ^ 62

-- All items that the bytes decide were rendered, and what is due of them was written.
pub record RendersOn (first : Rendering) (start : OutletState) (is_in : Mode → Type 0) (bytes : List ℕ)
    (rendering : Rendering) (written : OutletState) (kept : List ℕ) (total total' : ℕ)
    (lexer : LexerState) : Type 0 where
  pub rendered : HasRendered first start bytes lexer rendering written []
  pub no_more : Undecided bytes rendered.items
  pub total_is : total' ≡ total + length bytes
  pub begun : total ≡ 0
  pub working : written.failed ≡ false
  pub nothing_kept : kept ≡ []
  pub mode : is_in (mode_of lexer.context)
  pub open_input : lexer.ended ≡ false
  pub wants_more : WantsMore lexer
  pub fed : lexer.place + length lexer.rest ≡ total'

-- The text was written, and nothing else, that is due for every job that may be by these pieces.
pub record IsRendered (first : Rendering) (start : OutletState) (pieces : List (List ℕ)) (written : OutletState)
    (outcome : Outcome) : Type 0 where
  pub text : List ℕ
  pub adds : Adds start written text
  pub due : (job : List ℕ) → MayBeBy pieces job → IsExpected first job text outcome
  pub working : written.failed ≡ false

-- A front was written, and nothing else, of what is due for these bytes as a whole job.
pub record IsCutOff (first : Rendering) (start : OutletState) (bytes : List ℕ) (written : OutletState)
    (error : Error) : Type 0 where
  pub front : IsFrontFor first start written bytes
  pub status : written.failed ≡ is_write error
