-- The faults of a frame by its rules: what stands where a command does not.
use Rattle.std.specs.Prelude.{◌≡◌, ◌≢◌, ℕ, ℤ, ◌+◌, List, [], ◌∷◌, ◌++◌, length, None, Some}
use Rattle.pcl_lexer.specs.declared.frame.Kind.{Kind}
use Rattle.pcl_lexer.specs.declared.frame.Kind.TheVariants as kinds
use Rattle.pcl_items.specs.declared.frame.Handover.{Handover}
use Rattle.pcl_items.specs.declared.frame.Motion.{Motion}
use Rattle.pcl_items.specs.declared.frame.Setting.{Setting}
use Rattle.pcl_items.specs.declared.frame.Mnemonic.TheVariants.{Initialize, Sets, Moves}
use Rattle.pcl_lexer.specs.declared.frame.Gap.{Gap}
use Rattle.pcl_lexer.specs.declared.frame.Gap.TheVariants.{Straight, Spaced, Comma}
use Rattle.pcl_items.specs.declared.fault.Name.TheVariants as names
use Rattle.pcl_items.specs.declared.fault.LexCause.{LexCause}
use Rattle.pcl_items.specs.declared.fault.LexCause.TheVariants.{Syntax, Truncated, NotInProfile, BadNumber, EndInFrame}
use Rattle.pcl_lexer.specs.Frames.Kinds.{kind_of}
use Rattle.pcl_items.specs.Frames.Mnemonics.{capital, mnemonic_at}
use Rattle.pcl_items.specs.Escapes.Value.{Amount}
use Rattle.pcl_items.specs.Escapes.ValueField.{IsField}
use Rattle.pcl_lexer.specs.Frames.NumberText.{Ends}
use Rattle.pcl_lexer.specs.Frames.NumeralFaults.{NumeralFault, IsSomeSetting, IsSomeCoordinate}
use Rattle.pcl_lexer.specs.Frames.CommandParts.{Single, Odd, Even}
use Rattle.pcl_lexer.specs.Escapes.FieldFaults.{NumberFault, IsCut, IsCapital}
use Rattle.pcl_items.specs.Items.{Placed, Move, at}
use Rattle.pcl_items.specs.PjlLines.Exit.{BeginsExit}
use Rattle.pcl_lexer.specs.Frames.Grammar.{Start, AtLetters, BehindPair, Part, Word, Number, HasNoComma, IsBegun, IsEnd}
use Rattle.pcl_lexer.specs.Frames.Grammar.{EndsPair, HandsOver}
use Rattle.pcl_items.specs.Escapes.Codes.{escape}

-- ---- behind what is written of a command

-- a byte with which the command neither goes on nor ends
abbrev pub IsWrong : Part → Kind → Type 0
IsWrong (Word mnemonic) kinds.Comma = Unit {0}
IsWrong (Word mnemonic) kinds.Other = Unit {0}
IsWrong (Number numbers Straight) kinds.Figure = Unit {0}
IsWrong (Number numbers Straight) kinds.Other = Unit {0}
IsWrong (Number numbers Spaced) kinds.Other = Unit {0}
IsWrong (Number numbers Comma) kinds.Comma = Unit {0}
IsWrong (Number numbers Comma) kinds.Semicolon = Unit {0}
IsWrong (Number numbers Comma) kinds.Letter = Unit {0}
IsWrong (Number numbers Comma) kinds.Escape = Unit {0}
IsWrong (Number numbers Comma) kinds.Other = Unit {0}
IsWrong part kind = ⊥

-- a byte that begins a number there
abbrev pub BeginsNumber : Part → Kind → Type 0
BeginsNumber part kinds.Sign = Unit {0}
BeginsNumber (Word mnemonic) kinds.Figure = Unit {0}
BeginsNumber (Number numbers Spaced) kinds.Figure = Unit {0}
BeginsNumber (Number numbers Comma) kinds.Figure = Unit {0}
BeginsNumber part kind = ⊥

-- no further number may stand there; a coordinate may
abbrev pub IsFull : Part → Type 0
IsFull (Word Initialize) = Unit {0}
IsFull (Word (Sets setting)) = ⊥
IsFull (Word (Moves motion)) = ⊥
IsFull (Number (Single setting amount) gap) = Unit {0}
IsFull (Number (Odd motion x) gap) = ⊥
IsFull (Number (Even motion) gap) = ⊥

abbrev pub TakesCoordinate : Part → Type 0
TakesCoordinate (Word Initialize) = ⊥
TakesCoordinate (Word (Sets setting)) = ⊥
TakesCoordinate (Word (Moves motion)) = Unit {0}
TakesCoordinate (Number (Single setting amount) gap) = ⊥
TakesCoordinate (Number (Odd motion x) gap) = Unit {0}
TakesCoordinate (Number (Even motion) gap) = Unit {0}

-- the command can't end there
abbrev pub IsUnfinished : Part → Type 0
IsUnfinished (Word mnemonic) = ⊥
IsUnfinished (Number numbers Comma) = Unit {0}
IsUnfinished (Number (Odd motion x) Straight) = Unit {0}
IsUnfinished (Number (Odd motion x) Spaced) = Unit {0}
IsUnfinished part = ⊥

pub data PartFault : Part → List ℕ → LexCause → Type 0 where
  wrong_byte : {part : Part} {b : ℕ} {rest : List ℕ} → IsWrong part (kind_of b) → PartFault part (b ∷ rest) Syntax
  too_many : {part : Part} {b : ℕ} {rest : List ℕ} → BeginsNumber part (kind_of b) → IsFull part →
      PartFault part (b ∷ rest) BadNumber
  odd : {motion : Motion} {x : ℤ} {gap : Gap} {b : ℕ} {rest : List ℕ} → HasNoComma gap → IsEnd (kind_of b) →
      PartFault (Number (Odd motion x) gap) (b ∷ rest) BadNumber
  cut_part : {part : Part} → IsUnfinished part → PartFault part [] Truncated
  no_setting : {setting : Setting} {b : ℕ} {rest : List ℕ} {cause : LexCause} →
      BeginsNumber (Word (Sets setting)) (kind_of b) → NumeralFault IsSomeSetting (b ∷ rest) cause →
      PartFault (Word (Sets setting)) (b ∷ rest) cause
  no_coordinate : {part : Part} {b : ℕ} {rest : List ℕ} {cause : LexCause} →
      BeginsNumber part (kind_of b) → TakesCoordinate part → NumeralFault IsSomeCoordinate (b ∷ rest) cause →
      PartFault part (b ∷ rest) cause

-- ---- enter PCL mode

pub data LeaveFault : List ℕ → LexCause → Type 0 where
  leave_number : {bytes : List ℕ} → NumberFault bytes → LeaveFault bytes BadNumber
  no_letter : {text : List ℕ} {amount : Amount} {byte : ℕ} (rest : List ℕ) →
      IsField text amount → Ends text byte → (IsCapital byte → ⊥) → LeaveFault (text ++ byte ∷ rest) Syntax
  unknown_language : {text : List ℕ} {amount : Amount} {letter : ℕ} (rest : List ℕ) →
      IsField text amount → IsCapital letter → ((handover : Handover) → letter ≡ 65 → HandsOver amount handover → ⊥) →
      LeaveFault (text ++ letter ∷ rest) (NotInProfile (names.Pair 37 letter))
  cut_leave : {bytes : List ℕ} → IsCut bytes → LeaveFault bytes Truncated

-- ---- a unit

-- no unit begins so
abbrev pub BeginsNone : Kind → Type 0
BeginsNone kinds.White = ⊥
BeginsNone kinds.Comma = Unit {0}
BeginsNone kinds.Semicolon = ⊥
BeginsNone kinds.Letter = ⊥
BeginsNone kinds.Escape = ⊥
BeginsNone kinds.Sign = Unit {0}
BeginsNone kinds.Figure = Unit {0}
BeginsNone kinds.Other = Unit {0}

-- a fault in a unit's stead, which stands behind so many bytes
pub data FrameFault : Start → ℕ → List ℕ → LexCause → Type 0 where
  frame_ends : FrameFault AtLetters 0 [] EndInFrame
  no_command : {b : ℕ} {rest : List ℕ} → BeginsNone (kind_of b) → FrameFault AtLetters 0 (b ∷ rest) Syntax
  cut_letter : {a : ℕ} → kind_of a ≡ kinds.Letter → FrameFault AtLetters 0 (a ∷ []) Truncated
  one_letter : {a b : ℕ} {rest : List ℕ} → kind_of a ≡ kinds.Letter → kind_of b ≢ kinds.Letter →
      FrameFault AtLetters 0 (a ∷ b ∷ rest) Syntax
  unknown_letters : {a b : ℕ} {rest : List ℕ} → kind_of a ≡ kinds.Letter → kind_of b ≡ kinds.Letter →
      mnemonic_at (capital a) (capital b) ≡ None →
      FrameFault AtLetters 0 (a ∷ b ∷ rest) (NotInProfile (names.Pair (capital a) (capital b)))
  cut_frame_escape : FrameFault AtLetters 0 (escape ∷ []) Truncated
  other_sequence : {b : ℕ} {rest : List ℕ} → b ≢ 69 → b ≢ 37 →
      FrameFault AtLetters 0 (escape ∷ b ∷ rest) (NotInProfile (names.Byte b))
  in_language : {bytes : List ℕ} {cause : LexCause} → (BeginsExit bytes → ⊥) → LeaveFault bytes cause →
      FrameFault AtLetters 0 (escape ∷ 37 ∷ bytes) cause
  in_command : {start : Start} {part : Part} {from : ℕ} {text bytes : List ℕ} {cause : LexCause} →
      IsBegun start part from text bytes → PartFault part bytes cause → FrameFault start from (text ++ bytes) cause

-- A command that stops at a fault: pairs, and then the fault.
pub data FrameStops : Start → ℕ → List ℕ → List Placed → ℕ → LexCause → Type 0 where
  at_fault : {start : Start} {place from : ℕ} {bytes : List ℕ} {cause : LexCause} →
      FrameFault start from bytes cause → FrameStops start place bytes [] (place + from) cause
  behind_pair : {start : Start} {motion : Motion} {to : ℤ × ℤ} {place place1 from : ℕ} {text bytes : List ℕ}
      {items : List Placed} {cause : LexCause} →
      EndsPair start motion to from text bytes →
      FrameStops (BehindPair motion) (place + length text) bytes items place1 cause →
      FrameStops start place (text ++ bytes) (at (place + from) (Move motion (Some to)) ∷ items) place1 cause
