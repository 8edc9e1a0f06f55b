-- How the items of a job are rendered one after another: what was put of the text that is due, and what is still due.
use Rattle.std.specs.Prelude.{◌≡◌, ◌+◌, ℕ, List, [], ◌∷◌, ◌++◌, length, Bool, false, Option, None, Some, IsSome}
use Rattle.std.specs.Prelude.{Result, Ok, Err}
use Rattle.pcl_items.specs.declared.fault.LexCause.{LexCause}
use Rattle.pcl_items.specs.declared.item.Mode.{Mode}
use Rattle.pcl_items.specs.Modes.{follows}
use Rattle.pcl_items.specs.Items.{Entry, Placed}
use Rattle.pcl_lexer.specs.Reading.{Reading, IsReading, with_item}
use Rattle.pcl_lexer.specs.Lexing.State.{LexerState, WantsMore}
use Rattle.pcl_lexer.specs.Lexing.Meaning.{HasRead, MayBe, Undecided}
use Rattle.pcl_lexer.specs.Modes.{mode_of}
use Rattle.streams.specs.declared.error.Error.{Error}
use Rattle.streams.specs.declared.error.Error.TheVariants.{Memory, Read, Write, Turns, NoProfile, Items}
use Rattle.renderings.specs.declared.outcome.Outcome.{Outcome}
use Rattle.streams.specs.Outlet.{OutletState, Adds, AddsFront}
use Rattle.streams.specs.Writing.{Puts}
use Rattle.renderings.specs.Expected.{Rendering, IsExpected, behind}

-- ---- one item, or what comes behind the last

-- an item went with this text, and the rest of the job is rendered from there, and what a fault adds
pub record RestGoesOn (old new : Rendering) (x : Placed) (text : List ℕ) : Type 0 where
  pub due : (rest : Reading) → old.text (with_item x rest) ≡ text ++ new.text rest
  pub outcome : (rest : Reading) → old.outcome (with_item x rest) ≡ new.outcome rest
  pub fault : (rest : List Placed) (place : ℕ) (cause : LexCause) →
      old.at_fault (x ∷ rest) place cause ≡ new.at_fault rest place cause

-- on each of these readings the text is all that is due, and this comes of it
pub record EndsWith (rendering : Rendering) (Is : Reading → Type 0) (text : List ℕ) (outcome : Outcome) : Type 0 where
  pub due : (reading : Reading) → Is reading → rendering.text reading ≡ text
  pub outcome_is : (reading : Reading) → Is reading → rendering.outcome reading ≡ outcome

-- on each of these readings the text stands first
abbrev pub BeginsWith : Rendering → (Reading → Type 0) → List ℕ → Type 0
BeginsWith rendering Is text =
    (reading : Reading) → Is reading → (more : List ℕ) × (rendering.text reading ≡ text ++ more)

-- the item stands first
abbrev pub StartsWith : Placed → Reading → Type 0
StartsWith x reading = (rest : Reading) × (reading ≡ with_item x rest)

-- the rendering ended on these readings, or failed
abbrev pub Ended : Rendering → (Reading → Type 0) → OutletState → OutletState → List ℕ → List ℕ → Result Outcome Error →
    Type 0
Ended rendering Is old new kept kept' (Ok outcome) =
    (text : List ℕ) × Puts old new kept kept' text × EndsWith rendering Is text outcome
Ended rendering Is old new kept kept' (Err e) =
    (text : List ℕ) × AddsFront old new (kept ++ text) × BeginsWith rendering Is text

-- the item was rendered, and the rest goes on from there; or the rendering ended at it, or failed
abbrev pub RendersItem : Rendering → Rendering → Placed → OutletState → OutletState → List ℕ → List ℕ →
    Result (Option Outcome) Error → Type 0
RendersItem rest_before rest_behind x old new kept kept' (Ok None) =
    (text : List ℕ) × Puts old new kept kept' text × RestGoesOn rest_before rest_behind x text
RendersItem rest_before rest_behind x old new kept kept' (Ok (Some outcome)) =
    Ended rest_before (StartsWith x) old new kept kept' (Ok outcome)
RendersItem rest_before rest_behind x old new kept kept' (Err e) =
    Ended rest_before (StartsWith x) old new kept kept' (Err e)

-- a mode in which the renderer is admits the item
abbrev pub MayCome : {R : Type 0} → (R → Mode → Type 0) → R → Entry → Type 0
MayCome is_in renderer item = (mode : Mode) × is_in renderer mode × IsSome (follows mode item)

-- where the renderer goes on behind an item, it is in the mode behind that
abbrev pub StaysIn : {R : Type 0} → (R → Mode → Type 0) → R → R → Entry → Result (Option Outcome) Error → Type 0
StaysIn is_in old new item (Ok None) =
    (mode next : Mode) → is_in old mode → follows mode item ≡ Some next → is_in new next
StaysIn is_in old new item (Ok (Some outcome)) = Unit {0}
StaysIn is_in old new item (Err e) = Unit {0}

-- ---- the items of a job

-- So far the items that were read of the bytes were rendered:
-- this was put, and the rest of the job is rendered from there.
pub record HasRendered (first : Rendering) (start : OutletState) (bytes : List ℕ) (lexer : LexerState)
    (rendering : Rendering) (written : OutletState) (kept : List ℕ) : Type 0 where
  pub items : List Placed
  pub reads : HasRead lexer bytes items
  pub text : List ℕ
  pub puts : Puts start written [] kept text
  pub due : (rest : Reading) → first.text (behind items rest) ≡ text ++ rendering.text rest
  pub outcome : (rest : Reading) → first.outcome (behind items rest) ≡ rendering.outcome rest
  pub fault : (rest : List Placed) (place : ℕ) (cause : LexCause) →
      first.at_fault (items ++ rest) place cause ≡ rendering.at_fault rest place cause

-- what was put is due for every job that the bytes may be
abbrev pub HasEnded : Rendering → OutletState → Bool → List ℕ → OutletState → List ℕ → Outcome → Type 0
HasEnded first start ended bytes written kept outcome =
    (text : List ℕ) × Puts start written [] kept text
    × ((job : List ℕ) → MayBe ended bytes job → IsExpected first job text outcome)

-- what was written is a front of what is due for the job
abbrev pub IsFrontFor : Rendering → OutletState → OutletState → List ℕ → Type 0
IsFrontFor first start written job =
    (reading : Reading) × IsReading job reading × AddsFront start written (first.text reading)

-- what the rendering of items came to: all that the bytes decide were rendered, or it ended, or failed
abbrev pub RenderedTo : Rendering → OutletState → Bool → List ℕ → LexerState → Rendering → OutletState → List ℕ →
    Result (Option Outcome) Error → Type 0
RenderedTo first start ended bytes lexer rendering written kept (Ok None) =
    (rendered : HasRendered first start bytes lexer rendering written kept) × Undecided bytes rendered.items
RenderedTo first start ended bytes lexer rendering written kept (Ok (Some outcome)) =
    HasEnded first start ended bytes written kept outcome
RenderedTo first start ended bytes lexer rendering written kept (Err e) = IsFrontFor first start written bytes

-- Of every job: where the items that were read of its bytes were rendered so far, and the bytes are so many, the
-- rendering of all items that they decide came to this.
abbrev pub RendersDecided : LexerState → LexerState → ℕ → Result (Option Outcome) Error → Rendering → Rendering →
    OutletState → OutletState → List ℕ → List ℕ → Type 0
RendersDecided lexer lexer' total result rest_before rest_behind written written' kept kept' =
    (first : Rendering) (start : OutletState) (bytes : List ℕ) →
    HasRendered first start bytes lexer rest_before written kept → total ≡ length bytes →
    RenderedTo first start lexer.ended bytes lexer' rest_behind written' kept' result

-- The lexer reads on in the same bytes. Where all that they decide was rendered, more may come, and the renderer is in
-- the mode in which these are read.
pub record GoesOn (is_in : Mode → Type 0) (lexer lexer' : LexerState)
    (result : Result (Option Outcome) Error) : Type 0 where
  pub goes_on : result ≡ Ok None → (lexer.ended ≡ false) × WantsMore lexer' × is_in (mode_of lexer'.context)
  pub ended : lexer'.ended ≡ lexer.ended
  pub place : lexer'.place + length lexer'.rest ≡ lexer.place + length lexer.rest

-- an error of what is done with an item
abbrev pub IsErrorOfRendering : Error → Type 0
IsErrorOfRendering Memory = Unit {0}
IsErrorOfRendering Read = ⊥
IsErrorOfRendering Write = Unit {0}
IsErrorOfRendering Turns = ⊥
IsErrorOfRendering NoProfile = ⊥
IsErrorOfRendering Items = ⊥
