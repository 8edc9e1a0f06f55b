-- The commands of a frame by their rules: which bytes spell which items.
use Rattle.std.specs.Prelude.{◌≡◌, ◌≢◌, ◌⊎◌, ℕ, ℤ, ◌+◌, List, [], ◌∷◌, ◌++◌, length, Some}
use Rattle.pcl_lexer.specs.declared.frame.Kind.{Kind}
use Rattle.pcl_lexer.specs.declared.frame.Kind.TheVariants as kinds
use Rattle.pcl_items.specs.declared.number.Sign.TheVariants.{Minus}
use Rattle.pcl_items.specs.declared.frame.Handover.{Handover}
use Rattle.pcl_items.specs.declared.frame.Handover.TheVariants.{Previous, Current}
use Rattle.pcl_items.specs.declared.frame.Motion.{Motion}
use Rattle.pcl_items.specs.declared.frame.Setting.{Setting}
use Rattle.pcl_items.specs.declared.frame.Mnemonic.{Mnemonic}
use Rattle.pcl_items.specs.declared.frame.Mnemonic.TheVariants.{Sets, Moves}
use Rattle.pcl_lexer.specs.declared.frame.Gap.{Gap}
use Rattle.pcl_lexer.specs.declared.frame.Gap.TheVariants.{Straight, Spaced, Comma}
use Rattle.pcl_lexer.specs.Frames.Kinds.{kind_of}
use Rattle.pcl_items.specs.Frames.Mnemonics.{capital, mnemonic_at}
use Rattle.pcl_items.specs.Escapes.Codes.{escape}
use Rattle.pcl_items.specs.Escapes.Value.{Amount}
use Rattle.pcl_items.specs.Escapes.ValueField.{IsField}
use Rattle.pcl_lexer.specs.Frames.NumberText.{EndsBefore, IsCoordinate, IsSetting}
use Rattle.pcl_items.specs.Items.{Entry, Placed, Reset, LeaveFrame, Set, Move, bare, at}
use Rattle.pcl_lexer.specs.Frames.CommandParts.{Numbers, Single, Odd, Even, spaced}

-- Where what is written of a command begins: at its letters, or behind a pair.
pub data Start : Type 0 where
  AtLetters : Start
  BehindPair : (motion : Motion) → Start

-- What is written of a command: its letters; or numbers, and a gap behind the last one.
pub data Part : Type 0 where
  Word : (mnemonic : Mnemonic) → Part
  Number : (numbers : Numbers) (gap : Gap) → Part

-- the gap has no comma yet
abbrev pub HasNoComma : Gap → Type 0
HasNoComma Straight = Unit {0}
HasNoComma Spaced = Unit {0}
HasNoComma Comma = ⊥

-- straight behind a number another one begins with its sign
abbrev pub BeginsBehind : Gap → List ℕ → Type 0
BeginsBehind Straight [] = ⊥
BeginsBehind Straight (b ∷ text) = kind_of b ≡ kinds.Sign
BeginsBehind Spaced text = Unit {0}
BeginsBehind Comma text = Unit {0}

-- behind whole pairs the next item begins with its first number
abbrev pub moved : Numbers → ℕ → ℕ
moved (Single setting amount) from = from
moved (Odd motion x) from = from
moved (Even motion) from = from + 1

-- Of the bytes text ++ rest, text is what is written of a command, whose item stands behind so many bytes of it.
pub data IsBegun : Start → Part → ℕ → List ℕ → List ℕ → Type 0 where
  letters : {a b : ℕ} {rest : List ℕ} {mnemonic : Mnemonic} →
      kind_of a ≡ kinds.Letter → kind_of b ≡ kinds.Letter → mnemonic_at (capital a) (capital b) ≡ Some mnemonic →
      IsBegun AtLetters (Word mnemonic) 0 (a ∷ b ∷ []) rest
  letters_space : {start : Start} {mnemonic : Mnemonic} {from b : ℕ} {text rest : List ℕ} →
      IsBegun start (Word mnemonic) from text (b ∷ rest) → kind_of b ≡ kinds.White →
      IsBegun start (Word mnemonic) from (text ++ b ∷ []) rest
  setting : {start : Start} {setting : Setting} {amount : ℕ} {from : ℕ} {text number rest : List ℕ} →
      IsBegun start (Word (Sets setting)) from text (number ++ rest) → IsSetting number amount →
      EndsBefore number rest →
      IsBegun start (Number (Single setting amount) Straight) from (text ++ number) rest
  coordinate : {start : Start} {motion : Motion} {x : ℤ} {from : ℕ} {text number rest : List ℕ} →
      IsBegun start (Word (Moves motion)) from text (number ++ rest) → IsCoordinate number x → EndsBefore number rest →
      IsBegun start (Number (Odd motion x) Straight) from (text ++ number) rest
  behind_pair : {motion : Motion} {rest : List ℕ} →
      IsBegun (BehindPair motion) (Number (Even motion) Straight) 0 [] rest
  further_coordinate : {start : Start} {motion : Motion} {gap : Gap} {x : ℤ} {from : ℕ} {text number rest : List ℕ} →
      IsBegun start (Number (Even motion) gap) from text (number ++ rest) → BeginsBehind gap number →
      IsCoordinate number x → EndsBefore number rest →
      IsBegun start (Number (Odd motion x) Straight) from (text ++ number) rest
  space : {start : Start} {numbers : Numbers} {gap : Gap} {from b : ℕ} {text rest : List ℕ} →
      IsBegun start (Number numbers gap) from text (b ∷ rest) → kind_of b ≡ kinds.White →
      IsBegun start (Number numbers (spaced gap)) (moved numbers from) (text ++ b ∷ []) rest
  comma : {start : Start} {numbers : Numbers} {gap : Gap} {from b : ℕ} {text rest : List ℕ} →
      IsBegun start (Number numbers gap) from text (b ∷ rest) → kind_of b ≡ kinds.Comma → HasNoComma gap →
      IsBegun start (Number numbers Comma) (moved numbers from) (text ++ b ∷ []) rest

-- a semicolon, a letter and ESC end a command
abbrev pub IsEnd : Kind → Type 0
IsEnd kinds.White = ⊥
IsEnd kinds.Comma = ⊥
IsEnd kinds.Semicolon = Unit {0}
IsEnd kinds.Letter = Unit {0}
IsEnd kinds.Escape = Unit {0}
IsEnd kinds.Sign = ⊥
IsEnd kinds.Figure = ⊥
IsEnd kinds.Other = ⊥

-- so does the end of the bytes
abbrev pub EndsCommand : List ℕ → Type 0
EndsCommand [] = Unit {0}
EndsCommand (b ∷ rest) = IsEnd (kind_of b)

-- a whole command, and its item
pub data IsWhole : Part → Entry → Type 0 where
  without_number : {mnemonic : Mnemonic} → IsWhole (Word mnemonic) (bare mnemonic)
  with_number : {setting : Setting} {amount : ℕ} {gap : Gap} → HasNoComma gap →
      IsWhole (Number (Single setting amount) gap) (Set setting amount)

-- Of the bytes text ++ rest, text is what is written of a command up to the second coordinate of a pair, whose item
-- stands behind so many bytes of it.
pub data EndsPair : Start → Motion → (ℤ × ℤ) → ℕ → List ℕ → List ℕ → Type 0 where
  second_coordinate : {start : Start} {motion : Motion} {gap : Gap} {x y : ℤ} {from : ℕ} {text number rest : List ℕ} →
      IsBegun start (Number (Odd motion x) gap) from text (number ++ rest) → BeginsBehind gap number →
      IsCoordinate number y → EndsBefore number rest →
      EndsPair start motion (x, y) from (text ++ number) rest

-- A command, or what is written of it behind a pair, and the bytes behind it, which end it.
-- Each pair is an item of its own.
pub data IsCommand : Start → ℕ → List ℕ → List ℕ → List Placed → Type 0 where
  without_pairs : {start : Start} {part : Part} {place from : ℕ} {text rest : List ℕ} {item : Entry} →
      IsBegun start part from text rest → IsWhole part item → EndsCommand rest →
      IsCommand start place text rest (at (place + from) item ∷ [])
  pair : {start : Start} {motion : Motion} {to : ℤ × ℤ} {place from : ℕ} {text more rest : List ℕ}
      {items : List Placed} →
      EndsPair start motion to from text (more ++ rest) →
      IsCommand (BehindPair motion) (place + length text) more rest items →
      IsCommand start place (text ++ more) rest (at (place + from) (Move motion (Some to)) ∷ items)
  behind_pairs : {start : Start} {motion : Motion} {gap : Gap} {place from : ℕ} {text rest : List ℕ} →
      IsBegun start (Number (Even motion) gap) from text rest → HasNoComma gap → EndsCommand rest →
      IsCommand start place text rest []

-- One unit of a frame, and the bytes behind it: a separator;
-- or a command, which its own semicolon ends or a byte behind it.
pub data IsFrameUnit : ℕ → List ℕ → List ℕ → List Placed → Type 0 where
  separator : {place b : ℕ} {rest : List ℕ} → (kind_of b ≡ kinds.White) ⊎ (kind_of b ≡ kinds.Semicolon) →
      IsFrameUnit place (b ∷ []) rest []
  command : {place : ℕ} {text rest : List ℕ} {items : List Placed} →
      IsCommand AtLetters place text rest items → IsFrameUnit place text rest items
  ended_command : {place : ℕ} {text rest : List ℕ} {items : List Placed} →
      IsCommand AtLetters place text (59 ∷ rest) items → IsFrameUnit place (text ++ 59 ∷ []) rest items

-- The number says whose position is kept: 0, or 1 that is not negative.
pub data HandsOver : Amount → Handover → Type 0 where
  previous : {amount : Amount} → amount.ten_thousandths ≡ 0 → HandsOver amount Previous
  current : {amount : Amount} → amount.ten_thousandths ≡ 10000 → amount.sign ≢ Minus → HandsOver amount Current

-- An escape sequence, which leaves the frame.
pub data LeavesFrame : ℕ → List ℕ → List Placed → Type 0 where
  reset : {place : ℕ} → LeavesFrame place (escape ∷ 69 ∷ []) (at place Reset ∷ [])
  leave_frame : {place : ℕ} {field : List ℕ} {amount : Amount} {handover : Handover} →
      IsField field amount → HandsOver amount handover →
      LeavesFrame place (escape ∷ 37 ∷ (field ++ 65 ∷ [])) (at place (LeaveFrame handover) ∷ [])
