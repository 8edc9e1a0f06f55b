-- The faults of the language by its rules: what stands where an item does not.
use Rattle.std.specs.Prelude.{◌≡◌, ◌≢◌, ℕ, ◌+◌, ◌<◌, ◌≤◌, ◌⊎◌, List, [], ◌∷◌, ◌++◌, length, None}
use Rattle.pcl_items.specs.declared.pcl.command.Group.{Group}
use Rattle.pcl_items.specs.declared.pcl.command.Command.{Command}
use Rattle.pcl_items.specs.declared.pcl.command.DataCommand.{DataCommand}
use Rattle.pcl_items.specs.declared.fault.Name.TheVariants as names
use Rattle.pcl_items.specs.declared.fault.LexCause.{LexCause}
use Rattle.pcl_items.specs.declared.fault.LexCause.TheVariants.{Syntax, Truncated, NotInProfile, BadNumber}
use Rattle.pcl_items.specs.declared.item.Mode.{Mode}
use Rattle.pcl_items.specs.declared.item.Mode.TheVariants.{Pcl, Frame, Pjl}
use Rattle.pcl_items.specs.Escapes.Commands.{introducer_of, character_of, group_of, letter_of, data_group_of}
use Rattle.pcl_items.specs.Escapes.Commands.{data_letter_of}
use Rattle.pcl_items.specs.Escapes.Value.{Amount, Counts}
use Rattle.pcl_items.specs.Escapes.ValueField.{IsField}
pub use Rattle.pcl_lexer.specs.Frames.NumberText.{Ends}
pub use Rattle.pcl_lexer.specs.Escapes.FieldFaults.{NumberFault, too_long, out_of_range, IsCut, cut, IsCapital}
use Rattle.pcl_items.specs.Items.{Entry, Placed, Parameterized, at}
use Rattle.pcl_items.specs.Escapes.Codes.{control_at, sequence_at, escape}
use Rattle.pcl_items.specs.PjlLines.Text.{at_sign}
use Rattle.pcl_lexer.specs.PjlLines.Units.{PjlFault}
use Rattle.pcl_items.specs.PjlLines.Exit.{BeginsExit}
use Rattle.pcl_lexer.specs.Frames.Grammar.{AtLetters}
use Rattle.pcl_lexer.specs.Frames.Faults.{FrameStops}
use Rattle.pcl_lexer.specs.Grammar.{small, IsUngrouped, SpellsTo}

-- ---- a command

abbrev pub IsSmall : ℕ → Type 0
IsSmall c = (96 ≤ c) × (c ≤ 126)

-- no command has the letter
pub record IsUnknown (group : Group) (letter : ℕ) : Type 0 where
  pub no_command : (command : Command) → group_of command ≡ group → letter_of command ≡ letter → ⊥
  pub no_data_command : (command : DataCommand) → data_group_of command ≡ group → data_letter_of command ≡ letter → ⊥

pub data CommandFault : Group → List ℕ → LexCause → Type 0 where
  number : {group : Group} {bytes : List ℕ} → NumberFault bytes → CommandFault group bytes BadNumber
  no_letter : {group : Group} {text : List ℕ} {amount : Amount} {byte : ℕ} (rest : List ℕ) →
      IsField text amount → Ends text byte → (IsCapital byte → ⊥) → (IsSmall byte → ⊥) →
      CommandFault group (text ++ byte ∷ rest) Syntax
  unknown_last : {group : Group} {text : List ℕ} {amount : Amount} {letter : ℕ} (rest : List ℕ) →
      IsField text amount → IsCapital letter → IsUnknown group letter →
      CommandFault group (text ++ letter ∷ rest) (NotInProfile (names.Command group letter))
  unknown_more : {group : Group} {text : List ℕ} {amount : Amount} {letter : ℕ} (rest : List ℕ) →
      IsField text amount → IsCapital letter → IsUnknown group letter →
      CommandFault group (text ++ small letter ∷ rest) (NotInProfile (names.Command group letter))
  data_goes_on : {text : List ℕ} {amount : Amount} (command : DataCommand) (rest : List ℕ) →
      IsField text amount → CommandFault (data_group_of command) (text ++ small (data_letter_of command) ∷ rest) Syntax
  no_count : {text : List ℕ} {amount : Amount} (command : DataCommand) (rest : List ℕ) →
      IsField text amount → ((n : ℕ) → Counts amount n → ⊥) →
      CommandFault (data_group_of command) (text ++ data_letter_of command ∷ rest) BadNumber
  cut_data : {text : List ℕ} {amount : Amount} {n : ℕ} (command : DataCommand) (bytes : List ℕ) →
      IsField text amount → Counts amount n → length bytes < n →
      CommandFault (data_group_of command) (text ++ data_letter_of command ∷ bytes) Truncated
  cut_command : {group : Group} {bytes : List ℕ} → IsCut bytes → CommandFault group bytes Truncated

-- a sequence without a group
pub data UngroupedFault : ℕ → List ℕ → LexCause → Type 0 where
  ungrouped_number : {introducer : ℕ} {bytes : List ℕ} → NumberFault bytes → UngroupedFault introducer bytes BadNumber
  no_end : {introducer : ℕ} {text : List ℕ} {amount : Amount} {byte : ℕ} (rest : List ℕ) →
      IsField text amount → Ends text byte → (IsCapital byte → ⊥) →
      UngroupedFault introducer (text ++ byte ∷ rest) Syntax
  unknown_end : {introducer : ℕ} {text : List ℕ} {amount : Amount} {letter : ℕ} (rest : List ℕ) →
      IsField text amount → IsCapital letter →
      ((item : Entry) (mode : Mode) → IsUngrouped introducer amount letter item mode → ⊥) →
      UngroupedFault introducer (text ++ letter ∷ rest) (NotInProfile (names.Pair introducer letter))
  cut_ungrouped : {introducer : ℕ} {bytes : List ℕ} → IsCut bytes → UngroupedFault introducer bytes Truncated

-- ---- a unit

abbrev pub HasGroups : ℕ → Type 0
HasGroups introducer = (introducer ≡ 38) ⊎ (introducer ≡ 42) ⊎ (introducer ≡ 40)

abbrev pub BeginsSmall : List ℕ → Type 0
BeginsSmall [] = ⊥
BeginsSmall (b ∷ bytes) = IsSmall b

pub data UnitFault : Mode → List ℕ → LexCause → Type 0 where
  no_byte : {b : ℕ} {rest : List ℕ} → b < 32 → control_at b ≡ None → b ≢ escape →
      UnitFault Pcl (b ∷ rest) (NotInProfile (names.Byte b))
  cut_escape : UnitFault Pcl (escape ∷ []) Truncated
  no_sequence : {b : ℕ} {rest : List ℕ} → 33 ≤ b → b ≤ 126 → sequence_at b ≡ None → b ≢ 37 → (HasGroups b → ⊥) →
      UnitFault Pcl (escape ∷ b ∷ rest) (NotInProfile (names.Byte b))
  no_character : {b : ℕ} {rest : List ℕ} → (33 ≤ b → b ≤ 126 → ⊥) → UnitFault Pcl (escape ∷ b ∷ rest) Syntax
  cut_introducer : {b : ℕ} → HasGroups b → UnitFault Pcl (escape ∷ b ∷ []) Truncated
  no_group : {b c : ℕ} {rest : List ℕ} → HasGroups b → b ≢ 40 → (IsSmall c → ⊥) →
      UnitFault Pcl (escape ∷ b ∷ c ∷ rest) Syntax
  unknown_group : {b c : ℕ} {rest : List ℕ} → HasGroups b → IsSmall c →
      ((group : Group) → introducer_of group ≡ b → character_of group ≡ c → ⊥) →
      UnitFault Pcl (escape ∷ b ∷ c ∷ rest) (NotInProfile (names.Pair b c))
  in_group : {group : Group} {bytes : List ℕ} {cause : LexCause} → CommandFault group bytes cause →
      UnitFault Pcl (escape ∷ introducer_of group ∷ character_of group ∷ bytes) cause
  font : {bytes : List ℕ} {cause : LexCause} → (BeginsSmall bytes → ⊥) → UngroupedFault 40 bytes cause →
      UnitFault Pcl (escape ∷ 40 ∷ bytes) cause
  language : {bytes : List ℕ} {cause : LexCause} → (BeginsExit bytes → ⊥) → UngroupedFault 37 bytes cause →
      UnitFault Pcl (escape ∷ 37 ∷ bytes) cause
  wrong_line : {bytes : List ℕ} {cause : LexCause} → PjlFault (at_sign ∷ bytes) cause →
      UnitFault Pjl (at_sign ∷ bytes) cause

-- ---- where bytes stop

-- Commands of one group with small letters, one behind another, and then a fault in the stead of a command.
pub data CommandsStop : Group → ℕ → List ℕ → List Placed → ℕ → LexCause → Type 0 where
  fault : {group : Group} {place : ℕ} {bytes : List ℕ} {cause : LexCause} → CommandFault group bytes cause →
      CommandsStop group place bytes [] place cause
  behind : {place place1 : ℕ} {field bytes : List ℕ} {amount : Amount} {others : List Placed} {cause : LexCause}
      (command : Command) →
      IsField field amount →
      CommandsStop (group_of command) (place + length field + 1) bytes others place1 cause →
      CommandsStop (group_of command) place (field ++ small (letter_of command) ∷ bytes)
      (at place (Parameterized command amount) ∷ others) place1 cause

-- A unit that stops at a fault: in the unit's own stead, or in that of a later command of a combined sequence, behind
-- the items of the commands before it; or in a frame; or in mode PJL where mode PCL has one.
pub data UnitStops : Mode → ℕ → List ℕ → List Placed → ℕ → LexCause → Type 0 where
  whole_unit : {mode : Mode} {place : ℕ} {bytes : List ℕ} {cause : LexCause} → UnitFault mode bytes cause →
      UnitStops mode place bytes [] place cause
  later_command : {place place1 : ℕ} {group : Group} {bytes : List ℕ} {first : Placed} {others : List Placed}
      {cause : LexCause} →
      CommandsStop group (place + 3) bytes (first ∷ others) place1 cause →
      UnitStops Pcl place (escape ∷ introducer_of group ∷ character_of group ∷ bytes)
      (at place first.item ∷ others) place1 cause
  stops_in_frame : {place place1 : ℕ} {bytes : List ℕ} {items : List Placed} {cause : LexCause} →
      FrameStops AtLetters place bytes items place1 cause → UnitStops Frame place bytes items place1 cause
  stops_otherwise : {place place1 b : ℕ} {bytes : List ℕ} {items : List Placed} {cause : LexCause} →
      b ≢ at_sign → UnitStops Pcl place (b ∷ bytes) items place1 cause →
      UnitStops Pjl place (b ∷ bytes) items place1 cause

-- units spell items, and then a unit stops
pub data Stops : Mode → ℕ → List ℕ → List Placed → ℕ → LexCause → Type 0 where
  behind_units : {mode mode1 : Mode} {place place1 place2 : ℕ} {bytes rest : List ℕ} {items others : List Placed}
      {cause : LexCause} →
      SpellsTo mode place bytes items mode1 place1 rest →
      UnitStops mode1 place1 rest others place2 cause →
      Stops mode place bytes (items ++ others) place2 cause
