-- What a lexer answers, and what that says of the job.
use Rattle.std.specs.Prelude.{◌≡◌, ℕ, ◌+◌, ◌<◌, ◌≤◌, List, [], ◌∷◌, ◌++◌, length, Bool, true, false, Option, Some, None}
use Rattle.std.specs.Prelude.{Result, Ok, Err}
use Rattle.pcl_items.specs.declared.fault.LexCause.{LexCause}
use Rattle.pcl_items.specs.declared.fault.LexFault.{LexFault}
use Rattle.pcl_lexer.specs.Lexing.Contexts.{Pcl, item_place, MayEndAt}
use Rattle.pcl_items.specs.Modes.{follows}
use Rattle.pcl_lexer.specs.Modes.{mode_of}
use Rattle.pcl_lexer.specs.Reader.{first_of}
use Rattle.pcl_lexer.specs.Fault.{IsFault}
use Rattle.pcl_items.specs.declared.item.Item.TheVariants as items
use Rattle.pcl_items.specs.declared.item.LineEnd.{LineEnd}
use Rattle.pcl_items.specs.declared.item.LineEnd.TheVariants as ends
use Rattle.pcl_items.specs.declared.item.SimpleItem.{SimpleItem}
use Rattle.pcl_items.specs.declared.item.SimpleItem.TheVariants as simple
use Rattle.pcl_lexer.specs.declared.lexer.lexed.Lexed.{Lexed}
use Rattle.pcl_lexer.specs.declared.lexer.lexed.Lexed.TheVariants as answers
use Rattle.pcl_lexer.specs.declared.lexer.PlacedItem.{PlacedItem}
use Rattle.pcl_lexer.specs.declared.lexer.PlacedLineEnd.{PlacedLineEnd}
use Rattle.pcl_lexer.specs.declared.lexer.PlacedRow.{PlacedRow}
use Rattle.pcl_items.specs.declared.pcl.command.DataCommand.TheVariants.{RasterRow}
use Rattle.pcl_items.specs.Items.{Placed, view, at}
use Rattle.pcl_lexer.specs.Reading.{Reading, Whole, Stopped, IsReading, items_of, ReadsTo, left}
use Rattle.pcl_lexer.specs.Lexing.State.{LexerState, WantsMore}

-- what the whole job may be: the bytes that were fed, and whatever is still to come
abbrev pub MayBe : Bool → List ℕ → List ℕ → Type 0
MayBe ended bytes job = (more : List ℕ) × (job ≡ bytes ++ more) × (ended ≡ true → more ≡ [])

-- these items stand first in every job that the bytes may be
abbrev pub Decides : Bool → List ℕ → List Placed → Type 0
Decides ended bytes items =
    (job : List ℕ) (reading : Reading) → MayBe ended bytes job → IsReading job reading →
    (others : List Placed) × (items_of reading ≡ items ++ others)

-- every job that the bytes may be has this reading
abbrev pub Settles : Bool → List ℕ → Reading → Type 0
Settles ended bytes reading = (job : List ℕ) → MayBe ended bytes job → IsReading job reading

-- so far the lexer has read these items of these bytes
pub record HasRead (lexer : LexerState) (bytes : List ℕ) (items : List Placed) : Type 0 where
  pub reads : ReadsTo lexer.ended Pcl 0 bytes items lexer.context lexer.place lexer.rest

-- the answer that gives this item
abbrev pub answer_of : PlacedItem → Result Lexed LexFault
answer_of read = Ok (answers.Item read.place (items.Simple read.item))

-- the item of a line end
abbrev pub item_of_end : LineEnd → SimpleItem
item_of_end ends.CarriageReturn = simple.CarriageReturn
item_of_end ends.LineFeed = simple.LineFeed

-- the answer that gives this line end
abbrev pub answer_of_end : PlacedLineEnd → Result Lexed LexFault
answer_of_end read = answer_of (record { place = read.place; item = item_of_end read.line_end })

-- the item that an answer gives
abbrev pub given : Result Lexed LexFault → List Placed
given (Ok (answers.Item place item)) = at place (view item) ∷ []
given (Ok answers.NeedMore) = []
given (Ok answers.End) = []
given (Err fault) = []

-- the bytes decide no item behind these, and no fault
pub record Undecided (bytes : List ℕ) (items : List Placed) : Type 0 where
  pub no_item : (x : Placed) → Decides false bytes (items ++ x ∷ []) → ⊥
  pub no_fault : (place : ℕ) (cause : LexCause) → Settles false bytes (Stopped items place cause) → ⊥

-- what an answer says of the bytes that were fed, where these items were read of them before
abbrev pub Tells : Bool → List ℕ → List Placed → Result Lexed LexFault → Type 0
Tells ended bytes items (Ok (answers.Item place item)) = Decides ended bytes (items ++ at place (view item) ∷ [])
Tells ended bytes items (Ok answers.NeedMore) = (ended ≡ false) × Undecided bytes items
Tells ended bytes items (Ok answers.End) = (ended ≡ true) × IsReading bytes (Whole items (length bytes))
Tells ended bytes items (Err fault) = Settles ended bytes (Stopped items fault.place fault.cause)

-- an item leaves less to be read, and nothing leaves more
abbrev pub Advances : LexerState → Result Lexed LexFault → LexerState → Type 0
Advances old (Ok (answers.Item place item)) new = left new.context new.rest < left old.context old.rest
Advances old (Ok answers.NeedMore) new = left new.context new.rest ≤ left old.context old.rest
Advances old (Ok answers.End) new = left new.context new.rest ≤ left old.context old.rest
Advances old (Err fault) new = left new.context new.rest ≤ left old.context old.rest

-- the mode before an item admits it, with the other mode behind; all else keeps the mode
abbrev pub KeepsMode : LexerState → Result Lexed LexFault → LexerState → Type 0
KeepsMode old (Ok (answers.Item place item)) new =
    follows (mode_of old.context) (view item) ≡ Some (mode_of new.context)
KeepsMode old (Ok answers.NeedMore) new = mode_of new.context ≡ mode_of old.context
KeepsMode old (Ok answers.End) new = mode_of new.context ≡ mode_of old.context
KeepsMode old (Err fault) new = mode_of new.context ≡ mode_of old.context

-- More bytes are wanted only while more may come, and a piece may then be fed;
-- the end is told only where none may come, and a fault where it stands first. So a second call answers the same.
abbrev pub Allows : Result Lexed LexFault → LexerState → Type 0
Allows (Ok (answers.Item place item)) new = Unit {0}
Allows (Ok answers.NeedMore) new = (new.ended ≡ false) × WantsMore new
Allows (Ok answers.End) new = (new.ended ≡ true) × MayEndAt new.context × (new.rest ≡ [])
Allows (Err fault) new =
    (fault.place ≡ item_place new.context new.place)
    × IsFault new.ended (first_of new.ended new.context new.rest) new.context new.rest fault.cause

-- One answer of a lexer. No byte is lost.
pub record IsNext (old : LexerState) (result : Result Lexed LexFault) (new : LexerState) : Type 0 where
  pub reads : (bytes : List ℕ) (items : List Placed) → HasRead old bytes items →
      HasRead new bytes (items ++ given result)
  pub advances : Advances old result new
  pub total : new.place + length new.rest ≡ old.place + length old.rest
  pub ended : new.ended ≡ old.ended
  pub held : new.held ≡ old.held
  pub admits : KeepsMode old result new
  pub allows : Allows result new
  pub tells : (bytes : List ℕ) (items : List Placed) → HasRead old bytes items → Tells old.ended bytes items result

-- the answer that gives this row of a raster
abbrev pub answer_of_row : PlacedRow → Result Lexed LexFault
answer_of_row row = Ok (answers.Item row.place (items.WithData RasterRow row.lent))

-- one answer of a call for a row, which stands in mode PCL: where it gives none, the lexer stands as before
abbrev pub IsNextRow : LexerState → Option PlacedRow → LexerState → Type 0
IsNextRow old (Some row) new = IsNext old (answer_of_row row) new × (old.context ≡ Pcl)
IsNextRow old None new = new ≡ old
