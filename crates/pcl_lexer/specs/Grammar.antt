-- The command language by its rules: which bytes spell which items.
use Rattle.std.specs.Prelude.{◌≡◌, ◌≢◌, ℕ, ◌+◌, ◌≤◌, List, [], ◌∷◌, ◌++◌, length, Some}
use Rattle.pcl_items.specs.declared.pcl.command.Group.{Group}
use Rattle.pcl_items.specs.declared.number.Sign.TheVariants.{Minus}
use Rattle.pcl_items.specs.declared.frame.Handover.{Handover}
use Rattle.pcl_items.specs.declared.item.Mode.{Mode}
use Rattle.pcl_items.specs.declared.item.Mode.TheVariants.{Pcl, Frame, Pjl}
use Rattle.pcl_items.specs.Modes.{behind_pjl}
use Rattle.pcl_items.specs.declared.pcl.command.Command.{Command}
use Rattle.pcl_items.specs.declared.pcl.command.DataCommand.{DataCommand}
use Rattle.pcl_items.specs.Escapes.Commands.{introducer_of, character_of, group_of, letter_of, data_group_of}
use Rattle.pcl_items.specs.Escapes.Commands.{data_letter_of}
use Rattle.pcl_items.specs.Escapes.Value.{Amount, Counts}
use Rattle.pcl_items.specs.Escapes.ValueField.{IsField}
use Rattle.pcl_items.specs.Items.{Entry, Text, Parameterized, SymbolSet, DefaultFont, EnterFrame, LeaveFrame, WithData}
use Rattle.pcl_items.specs.Items.{ExitLanguage, PjlLine, Placed, at}
use Rattle.pcl_items.specs.Escapes.SetLetters.{IsSetLetter}
use Rattle.pcl_items.specs.Escapes.Codes.{escape, control_at, sequence_at}
use Rattle.pcl_items.specs.PjlLines.Text.{at_sign, PjlCommand}
use Rattle.pcl_lexer.specs.PjlLines.Units.{IsPjlUnit}
use Rattle.pcl_items.specs.PjlLines.Exit.{exit_text}
pub use Rattle.pcl_lexer.specs.Frames.Grammar.{HandsOver, previous, current, IsFrameUnit, LeavesFrame}

-- a job may end in the mode
abbrev pub MayEnd : Mode → Type 0
MayEnd Pcl = Unit {0}
MayEnd Frame = ⊥
MayEnd Pjl = Unit {0}

-- the parameter character of a termination character
abbrev pub small : ℕ → ℕ
small letter = letter + 32

-- Commands of one group, one behind another: a value field and a letter each. The letter of the last one is capital,
-- the others are small. Each stands at its value field.
-- Data, as many bytes as the number counts, stand behind a last one.
pub data Commands : Group → ℕ → List ℕ → List Placed → Type 0 where
  last : {place : ℕ} {field : List ℕ} {amount : Amount} (command : Command) →
      IsField field amount →
      Commands (group_of command) place (field ++ letter_of command ∷ []) (at place (Parameterized command amount) ∷ [])
  with_data : {place : ℕ} {field bytes : List ℕ} {amount : Amount} (command : DataCommand) →
      IsField field amount → Counts amount (length bytes) →
      Commands (data_group_of command) place (field ++ data_letter_of command ∷ bytes)
      (at place (WithData command bytes) ∷ [])
  more : {place : ℕ} {field text : List ℕ} {amount : Amount} {others : List Placed} (command : Command) →
      IsField field amount →
      Commands (group_of command) (place + length field + 1) text others →
      Commands (group_of command) place (field ++ small (letter_of command) ∷ text)
      (at place (Parameterized command amount) ∷ others)

-- The item of an introducer, a number and a letter without a group, and the mode behind it:
-- a symbol set, `(3@`, enter PCL mode, or enter HP-GL/2 mode.
pub data IsUngrouped : ℕ → Amount → ℕ → Entry → Mode → Type 0 where
  symbol_set : {amount : Amount} {letter : ℕ} → IsSetLetter letter →
      IsUngrouped 40 amount letter (SymbolSet amount letter) Pcl
  default_font : {amount : Amount} → amount.ten_thousandths ≡ 30000 → amount.sign ≢ Minus →
      IsUngrouped 40 amount 64 DefaultFont Pcl
  leave_frame : {amount : Amount} {handover : Handover} → HandsOver amount handover →
      IsUngrouped 37 amount 65 (LeaveFrame handover) Pcl
  enter_frame : {amount : Amount} {handover : Handover} → HandsOver amount handover →
      IsUngrouped 37 amount 66 (EnterFrame handover) Frame

-- One unit, and the bytes behind it, which matter to the commands of a frame alone. In mode PCL it is a byte of text, a
-- control code, a sequence of two characters, one without a group, or a combined sequence, whose first item stands at
-- its first byte. The universal exit leads from each mode to mode PJL. There `@` begins a line, and each other byte is
-- read in mode PCL, which then stands.
pub data IsUnit : Mode → ℕ → List ℕ → List ℕ → List Placed → Mode → Type 0 where
  text_byte : {place code : ℕ} {rest : List ℕ} → 32 ≤ code →
      IsUnit Pcl place (code ∷ []) rest (at place (Text code) ∷ []) Pcl
  control_code : {place code : ℕ} {item : Entry} {rest : List ℕ} → control_at code ≡ Some item →
      IsUnit Pcl place (code ∷ []) rest (at place item ∷ []) Pcl
  two_characters : {place character : ℕ} {item : Entry} {rest : List ℕ} → sequence_at character ≡ Some item →
      IsUnit Pcl place (escape ∷ character ∷ []) rest (at place item ∷ []) Pcl
  ungrouped : {place introducer letter : ℕ} {field rest : List ℕ} {amount : Amount} {item : Entry} {mode : Mode} →
      IsField field amount → IsUngrouped introducer amount letter item mode →
      IsUnit Pcl place (escape ∷ introducer ∷ (field ++ letter ∷ [])) rest (at place item ∷ []) mode
  combined : {place : ℕ} {group : Group} {text rest : List ℕ} {first : Placed} {others : List Placed} →
      Commands group (place + 3) text (first ∷ others) →
      IsUnit Pcl place (escape ∷ introducer_of group ∷ character_of group ∷ text) rest
      (at place first.item ∷ others) Pcl
  in_frame : {place : ℕ} {text rest : List ℕ} {items : List Placed} → IsFrameUnit place text rest items →
      IsUnit Frame place text rest items Frame
  out_of_frame : {place : ℕ} {text rest : List ℕ} {items : List Placed} → LeavesFrame place text items →
      IsUnit Frame place text rest items Pcl
  exit : {mode : Mode} {place : ℕ} {rest : List ℕ} → IsUnit mode place exit_text rest (at place ExitLanguage ∷ []) Pjl
  line : {place : ℕ} {text rest : List ℕ} {line : PjlCommand} → IsPjlUnit text line →
      IsUnit Pjl place text rest (at place (PjlLine line) ∷ []) (behind_pjl line)
  otherwise : {mode : Mode} {place b : ℕ} {text rest : List ℕ} {items : List Placed} →
      b ≢ at_sign → IsUnit Pcl place (b ∷ text) rest items mode → IsUnit Pjl place (b ∷ text) rest items mode

-- From a mode and a place on, units spell the items, up to a mode and a place, with the rest behind them.
pub data SpellsTo : Mode → ℕ → List ℕ → List Placed → Mode → ℕ → List ℕ → Type 0 where
  here : {mode : Mode} {place : ℕ} {bytes : List ℕ} → SpellsTo mode place bytes [] mode place bytes
  next : {mode mode1 mode2 : Mode} {place place2 : ℕ} {text bytes rest : List ℕ} {items others : List Placed} →
      IsUnit mode place text bytes items mode1 →
      SpellsTo mode1 (place + length text) bytes others mode2 place2 rest →
      SpellsTo mode place (text ++ bytes) (items ++ others) mode2 place2 rest

-- all of the bytes spell the items
abbrev pub Spells : Mode → ℕ → List ℕ → List Placed → Mode → Type 0
Spells mode place bytes items mode2 = (place2 : ℕ) × SpellsTo mode place bytes items mode2 place2 []
