-- A pair of coordinates that stands first in a frame.
use Rattle.std.specs.Prelude.{◌≡◌, ◌≤◌, ◌<◌, ◌+◌, ◌-◌, ℕ, ℤ, List, [], ◌∷◌, length, get_or, drop, Bool, false, Some}
use Rattle.std.specs.Prelude.{None, IsTrue}
use Rattle.pcl_lexer.specs.declared.frame.Kind.TheVariants.{Letter}
use Rattle.pcl_items.specs.declared.frame.Motion.{Motion}
use Rattle.pcl_items.specs.declared.frame.Mnemonic.TheVariants.{Moves}
use Rattle.pcl_lexer.specs.declared.frame.Gap.TheVariants.{Straight}
use Rattle.pcl_lexer.specs.declared.frame.pair.ReadPair.{ReadPair}
use Rattle.pcl_lexer.specs.declared.frame.pair.Lead.{Lead}
use Rattle.pcl_lexer.specs.declared.frame.pair.ReadCoordinate.{ReadCoordinate}
use Rattle.pcl_lexer.specs.Frames.Kinds.{kind_of}
use Rattle.pcl_items.specs.Frames.Mnemonics.{capital, mnemonic_at}
use Rattle.pcl_lexer.specs.Lexing.Contexts.{Context, Frame, Letters, Numbered, Odd, Even}
use Rattle.pcl_items.specs.Items.{Move, at, pair}
use Rattle.pcl_lexer.specs.Frames.Number.{Read, numeral_at, coordinate_of}
use Rattle.pcl_lexer.specs.Reader.{Passes, first_of}
use Rattle.pcl_lexer.specs.Reading.{ReadsTo}

-- the bytes from this context and place on begin with the pair: they are read to its item, which stands at its place
pub record IsPairAhead (read : ReadPair) (context : Context) (place : ℕ) (bytes : List ℕ) : Type 0 where
  pub reads : (whole : Bool) →
      ReadsTo whole context place bytes (at read.place (Move read.motion (pair (Some read.to))) ∷ [])
      (Numbered (Even read.motion) Straight 0) (place + read.len) (drop read.len bytes)
  pub within : read.len ≤ length bytes
  pub same : IsTrue read.is_further → context ≡ Numbered (Even read.motion) Straight 0

-- the bytes from this context and place on begin with a command without coordinates:
-- they are read to its item, which stands at its place
pub record IsBareAhead (lead : Lead) (context : Context) (place : ℕ) (bytes : List ℕ) : Type 0 where
  pub reads : (whole : Bool) →
      ReadsTo whole context place bytes (at lead.place (Move lead.motion None) ∷ []) Frame
      (place + lead.len) (drop lead.len bytes)
  pub within : lead.len ≤ length bytes

-- a coordinate of so many characters stands first, whatever comes behind the bytes
abbrev pub Stands : List ℕ → ℤ → ℕ → Type 0
Stands bytes x len = (whole : Bool) → numeral_at coordinate_of whole bytes ≡ Read x len

-- a first coordinate of so many characters stands so many bytes behind this context and place, and its item
-- where it says
abbrev pub Begun : Lead → Context → ℕ → List ℕ → ℤ → ℕ → Bool → Type 0
Begun lead context place bytes x len whole =
    ReadsTo whole context place bytes [] (Numbered (Odd lead.motion x) Straight (place + lead.len + len - lead.place))
    (place + (lead.len + len)) (drop (lead.len + len) bytes)

-- whichever coordinate stands behind these bytes begins a pair
pub record Leads (lead : Lead) (context : Context) (place : ℕ) (bytes : List ℕ) : Type 0 where
  pub reads : (whole : Bool) (x : ℤ) (len : ℕ) → Stands (drop lead.len bytes) x len →
      Begun lead context place bytes x len whole
  pub behind : lead.place ≤ place + lead.len
  pub within : lead.len ≤ length bytes
  pub same : IsTrue lead.is_further → context ≡ Numbered (Even lead.motion) Straight 0

-- .. and these bytes are no part of a command before them
pub record LeadsCommand (lead : Lead) (place : ℕ) (bytes : List ℕ) : Type 0 where
  pub leads : Leads lead Frame place bytes
  pub ends : (whole : Bool) (motion : Motion) (n : ℕ) →
      first_of whole (Numbered (Even motion) Straight n) bytes ≡ Passes 0 Frame
  pub letters : (whole : Bool) →
      ReadsTo whole Frame place bytes [] (Letters (Moves lead.motion) 2) (place + lead.len) (drop lead.len bytes)
  pub placed : lead.place + 2 ≡ place + lead.len
  pub first : lead.is_further ≡ false

-- behind the capital P this byte names the motion
pub record NamesMotion (second : ℕ) (motion : Motion) : Type 0 where
  pub named : mnemonic_at 80 (capital second) ≡ Some (Moves motion)
  pub letter : kind_of second ≡ Letter

-- the letters of a command of this motion stand first, and end one before them
pub record HasLetters (motion : Motion) (bytes : List ℕ) : Type 0 where
  pub first : (whole : Bool) → first_of whole Frame bytes ≡ Passes 2 (Letters (Moves motion) 2)
  pub ends : (whole : Bool) (other : Motion) (n : ℕ) →
      first_of whole (Numbered (Even other) Straight n) bytes ≡ Passes 0 Frame
  pub within : 2 ≤ length bytes

-- a coordinate stands first, whatever comes behind the bytes, and this byte behind it
pub record IsCoordinateAhead (read : ReadCoordinate) (bytes : List ℕ) : Type 0 where
  pub number : Stands bytes read.coordinate.units read.len
  pub last : read.last ≡ get_or bytes read.len 0
  pub within : read.len < length bytes
