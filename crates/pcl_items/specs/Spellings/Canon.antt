-- The one spelling of each item.
use Rattle.std.specs.Prelude.{ℕ, ℤ, unsigned_abs, Option, None, Some, ◌≤◌, List, [], ◌∷◌, ◌++◌, length, decimal}
use Rattle.std.specs.Fmt.{signed_decimal}
use Rattle.shown_bytes.specs.Decimals.{magnitude_text}
use Rattle.pcl_items.specs.declared.frame.Handover.{Handover}
use Rattle.pcl_items.specs.declared.frame.Handover.TheVariants.{Previous, Current}
use Rattle.pcl_items.specs.declared.frame.Mnemonic.{Mnemonic}
use Rattle.pcl_items.specs.declared.frame.Mnemonic.TheVariants as mnemonics
use Rattle.pcl_items.specs.Frames.Mnemonics.{letters_of}
use Rattle.pcl_items.specs.Escapes.Commands.{introducer_of, character_of, group_of, letter_of, data_group_of}
use Rattle.pcl_items.specs.Escapes.Commands.{data_letter_of}
use Rattle.pcl_items.specs.Escapes.Value.{Amount, most, most_data, most_units}
use Rattle.pcl_items.specs.Escapes.ValueField.{sign_text}
use Rattle.pcl_items.specs.Items.{Entry, Text, CarriageReturn, LineFeed, FormFeed, Reset, ClearMargins, HalfLineFeed}
use Rattle.pcl_items.specs.Items.{Parameterized, SymbolSet, DefaultFont, EnterFrame, LeaveFrame, Initialize, Set, Move}
use Rattle.pcl_items.specs.Items.{WithData, ExitLanguage, PjlLine}
use Rattle.pcl_items.specs.Escapes.SetLetters.{IsSetLetter}
use Rattle.pcl_items.specs.PjlLines.Canon.{canon_pjl, IsSpelledPjl}
use Rattle.pcl_items.specs.PjlLines.Exit.{exit_text}
use Rattle.pcl_items.specs.Escapes.Codes.{escape}

-- a number, with its sign as it was written
abbrev pub amount_text : Amount → List ℕ
amount_text a = sign_text a.sign ++ magnitude_text a.ten_thousandths

abbrev pub handover_digit : Handover → ℕ
handover_digit Previous = 48
handover_digit Current = 49

-- of a command of a frame: two capitals, and a semicolon behind what follows them
abbrev pub command_text : Mnemonic → List ℕ → List ℕ
command_text mnemonic numbers = (letters_of mnemonic).0 ∷ (letters_of mnemonic).1 ∷ (numbers ++ 59 ∷ [])

-- `-` only before a number that is not 0
abbrev pub pair_text : Option (ℤ × ℤ) → List ℕ
pair_text None = []
pair_text (Some p) = signed_decimal p.0 ++ 44 ∷ signed_decimal p.1

abbrev pub canon : Entry → List ℕ
canon (Text code) = code ∷ []
canon CarriageReturn = 13 ∷ []
canon LineFeed = 10 ∷ []
canon FormFeed = 12 ∷ []
canon Reset = escape ∷ 69 ∷ []
canon ClearMargins = escape ∷ 57 ∷ []
canon HalfLineFeed = escape ∷ 61 ∷ []
canon (Parameterized command amount) =
    escape ∷ introducer_of (group_of command) ∷ character_of (group_of command)
    ∷ (amount_text amount ++ letter_of command ∷ [])
canon (SymbolSet amount letter) = escape ∷ 40 ∷ (amount_text amount ++ letter ∷ [])
canon DefaultFont = escape ∷ 40 ∷ 51 ∷ 64 ∷ []
canon (EnterFrame handover) = escape ∷ 37 ∷ handover_digit handover ∷ 66 ∷ []
canon (LeaveFrame handover) = escape ∷ 37 ∷ handover_digit handover ∷ 65 ∷ []
canon Initialize = command_text mnemonics.Initialize []
canon (Set setting ten_thousandths) = command_text (mnemonics.Sets setting) (magnitude_text ten_thousandths)
canon (Move motion to) = command_text (mnemonics.Moves motion) (pair_text to)
canon (WithData command bytes) =
    escape ∷ introducer_of (data_group_of command) ∷ character_of (data_group_of command)
    ∷ (decimal (length bytes) ++ data_letter_of command ∷ bytes)
canon ExitLanguage = exit_text
canon (PjlLine line) = canon_pjl line

-- the bytes behind a command that counts them, which end its spelling
abbrev pub data_of : Entry → List ℕ
data_of (WithData command bytes) = bytes
data_of item = []

-- coordinates within the limit
abbrev pub IsPair : Option (ℤ × ℤ) → Type 0
IsPair None = Unit {0}
IsPair (Some p) = (unsigned_abs p.0 ≤ most_units) × (unsigned_abs p.1 ≤ most_units)

-- an item within the limits
abbrev pub IsItem : Entry → Type 0
IsItem (Text code) = 32 ≤ code
IsItem CarriageReturn = Unit {0}
IsItem LineFeed = Unit {0}
IsItem FormFeed = Unit {0}
IsItem Reset = Unit {0}
IsItem ClearMargins = Unit {0}
IsItem HalfLineFeed = Unit {0}
IsItem (Parameterized command amount) = amount.ten_thousandths ≤ most
IsItem (SymbolSet amount letter) = (amount.ten_thousandths ≤ most) × IsSetLetter letter
IsItem DefaultFont = Unit {0}
IsItem (EnterFrame handover) = Unit {0}
IsItem (LeaveFrame handover) = Unit {0}
IsItem Initialize = Unit {0}
IsItem (Set setting ten_thousandths) = ten_thousandths ≤ most
IsItem (Move motion to) = IsPair to
IsItem (WithData command bytes) = length bytes ≤ most_data
IsItem ExitLanguage = Unit {0}
IsItem (PjlLine line) = IsSpelledPjl line

-- an item that is no line
abbrev pub IsNoPjl : Entry → Type 0
IsNoPjl (PjlLine line) = ⊥
IsNoPjl item = Unit {0}
