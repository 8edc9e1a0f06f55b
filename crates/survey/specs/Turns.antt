-- What comes of a fault: what is told at once, and what is passed over next.
use Rattle.std.specs.Prelude.{ℕ, ◌==◌, false, None, Some, if◌then◌else◌}
use Rattle.pcl_items.specs.declared.pcl.command.Group.{Group}
use Rattle.pcl_items.specs.declared.fault.LexCause.{LexCause}
use Rattle.pcl_items.specs.declared.fault.LexCause.TheVariants.{NotInProfile}
use Rattle.pcl_items.specs.declared.fault.Name.TheVariants.{Pair}
use Rattle.pcl_items.specs.declared.frame.Mnemonic.TheVariants.{Sets, Moves}
use Rattle.pcl_items.specs.Escapes.Commands.{introducer_of, character_of}
use Rattle.pcl_items.specs.Frames.Mnemonics.{letters_of}
use Rattle.pcl_lexer.specs.Lexing.Contexts.{Context, Pcl, Sequence, Frame, Letters, Numbered, Pjl, item_place}
use Rattle.pcl_lexer.specs.Lexing.Contexts.{Numbers, Single, Odd, Even}
use Rattle.survey.specs.declared.refusal.Spelled.TheVariants.{Control, Instruction, FrameBytes}
use Rattle.survey.specs.declared.part.Home.{Home}
use Rattle.survey.specs.declared.part.Home.TheVariants as homes
use Rattle.survey.specs.declared.part.Onto.TheVariants as onto
use Rattle.survey.specs.declared.part.Part.TheVariants as parts
use Rattle.survey.specs.declared.part.Passing.{Passing}
use Rattle.survey.specs.declared.part.Turn.{Turn}
use Rattle.survey.specs.NamedLines.{no_line}
use Rattle.survey.specs.Passing.{ends, goes_on, no_count}

abbrev pub passing_at : LexCause → Home → ℕ → Passing
passing_at cause home begun = record { cause = cause; home = home; begun = begun }

-- in mode PCL an escape sequence, or a control code
abbrev pub in_page : LexCause → (place b : ℕ) → Turn
in_page cause place b =
    if b == 27 then goes_on (parts.Escape (passing_at cause homes.Page place))
    else ends (passing_at cause homes.Page place) (Control b) onto.Page

-- and where a line of the job language may stand
abbrev pub in_lines : LexCause → (place b : ℕ) → Turn
in_lines cause place b =
    if b == 64 then goes_on (parts.Line (passing_at cause homes.Page place) 0 no_line) else in_page cause place b

-- in a combined sequence of a group the value field of a command
abbrev pub in_sequence : Group → LexCause → (place : ℕ) → Turn
in_sequence group cause place = record {
  is_taken = false;
  told = None;
  onto = onto.Part
      (parts.Grouped (passing_at cause homes.Page place) (introducer_of group) (character_of group) no_count);
}

-- the cause has the letters of an instruction, where one stands there
abbrev pub by_cause : LexCause → Passing → Turn
by_cause (NotInProfile (Pair first second)) p =
    ends p (Instruction first second) (onto.Part (parts.Second first second))
by_cause _ p = ends p FrameBytes (onto.Part parts.Numbers)

-- between the instructions of a frame an escape sequence, an instruction, or other bytes
abbrev pub in_frame : LexCause → (place b : ℕ) → Turn
in_frame cause place b =
    if b == 27 then goes_on (parts.Escape (passing_at cause homes.Frame place))
    else by_cause cause (passing_at cause homes.Frame place)

-- within the numbers of an instruction of these letters
abbrev pub in_parameters : ℕ × ℕ → LexCause → (begun : ℕ) → Turn
in_parameters letters cause begun = record {
  is_taken = false;
  told = Some (record { cause = cause; spelled = Instruction letters.0 letters.1; place = begun });
  onto = onto.Part parts.Numbers;
}

abbrev pub letters_before : Numbers → ℕ × ℕ
letters_before (Single setting amount) = letters_of (Sets setting)
letters_before (Odd motion x) = letters_of (Moves motion)
letters_before (Even motion) = letters_of (Moves motion)

-- a fault behind this, where so many bytes stand before the byte at which it is seen
abbrev pub fault_turn : Context → LexCause → (place b : ℕ) → Turn
fault_turn Pcl cause place b = in_page cause place b
fault_turn (Sequence group) cause place b = in_sequence group cause place
fault_turn Frame cause place b = in_frame cause place b
fault_turn (Letters mnemonic n) cause place b =
    in_parameters (letters_of mnemonic) cause (item_place (Letters mnemonic n) place)
fault_turn (Numbered numbers gap n) cause place b =
    in_parameters (letters_before numbers) cause (item_place (Numbered numbers gap n) place)
fault_turn Pjl cause place b = in_lines cause place b
