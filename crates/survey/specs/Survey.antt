-- The survey of a job: its bytes are read on behind what the language refuses, and each refusal is told.
use Rattle.std.specs.Prelude.{◌≡◌, ℕ, ◌+◌, List, [], ◌∷◌, ◌++◌, drop, get_or, Bool, true, Option, None, Some}
use Rattle.std.specs.Prelude.{option_to_list}
use Rattle.pcl_items.specs.declared.fault.LexCause.{LexCause}
use Rattle.pcl_items.specs.declared.fault.LexCause.TheVariants.{Truncated, EndInFrame}
use Rattle.pcl_items.specs.Items.{Placed}
use Rattle.pcl_lexer.specs.Lexing.Contexts.{Context, Pcl, Sequence, Frame, Pjl, item_place}
use Rattle.pcl_lexer.specs.Fault.{end_cause}
use Rattle.pcl_lexer.specs.Reader.{First, Open, Passes as PassesBytes, Begins, Faulty, first_of}
use Rattle.pcl_lexer.specs.Reading.{ReadsTo}
use Rattle.survey.specs.declared.refusal.Refusal.{Refusal}
use Rattle.survey.specs.declared.refusal.Spelled.TheVariants as spellings
use Rattle.survey.specs.declared.part.Onto.{Onto}
use Rattle.survey.specs.declared.part.Onto.TheVariants as onto
use Rattle.survey.specs.declared.part.Part.{Part}
use Rattle.survey.specs.declared.part.Part.TheVariants as parts
use Rattle.survey.specs.declared.part.Passing.{Passing}
use Rattle.survey.specs.declared.part.Turn.{Turn}
use Rattle.survey.specs.NamedLines.{number_of}
use Rattle.survey.specs.Passing.{passed, taken, told_of}
use Rattle.survey.specs.Turns.{fault_turn}

-- the language is read behind this, or bytes that it refused are passed over
pub data Standing : Type 0 where
  Reads : (context : Context) → Standing
  Passes : (part : Part) → Standing

abbrev pub standing_of : Onto → Standing
standing_of onto.Page = Reads Pcl
standing_of (onto.Group group) = Reads (Sequence group)
standing_of onto.Frame = Reads Frame
standing_of onto.Lines = Reads Pjl
standing_of (onto.Part part) = Passes part

-- ---- what comes next

-- the turn at a fault
abbrev pub turn_at : First → Context → ℕ → List ℕ → Option Turn
turn_at Open context place bytes = None
turn_at (PassesBytes len next) context place bytes = None
turn_at (Begins item len next) context place bytes = None
turn_at (Faulty cause) context place bytes = Some (fault_turn context cause place (get_or bytes 0 0))

-- where a fault stands first, or bytes are passed over: what comes of it, with so many bytes before these
abbrev pub next_turn : Bool → Standing → ℕ → List ℕ → Option Turn
next_turn whole (Reads context) place bytes = turn_at (first_of whole context bytes) context place bytes
next_turn whole (Passes part) place [] = None
next_turn whole (Passes part) place (b ∷ bytes) = Some (passed part place b)

-- the bytes decide nothing more
abbrev pub Waits : Bool → Standing → List ℕ → Type 0
Waits whole (Reads context) bytes = first_of whole context bytes ≡ Open
Waits whole (Passes part) bytes = bytes ≡ []

-- ---- the end of all bytes

abbrev pub ends_so : Option LexCause → ℕ → Option Refusal
ends_so None place = None
ends_so (Some cause) place = Some (record { cause = cause; spelled = spellings.End; place = place })

-- a sequence that is refused has no end there
abbrev pub unended : Passing → Option Refusal
unended passing = Some (told_of passing spellings.Unended)

-- what is cut off there; a line is told by the words that it has
abbrev pub cut_at : Part → ℕ → Option Refusal
cut_at (parts.Escape passing) place = unended passing
cut_at (parts.Introduced passing introducer) place = unended passing
cut_at (parts.Grouped passing introducer group count) place = unended passing
cut_at (parts.Ungrouped passing introducer) place = unended passing
cut_at (parts.Data home n) place = ends_so (Some Truncated) place
cut_at (parts.Inner passing introducer group n) place = ends_so (Some Truncated) place
cut_at (parts.Second first second) place = ends_so (Some EndInFrame) place
cut_at parts.Numbers place = ends_so (Some EndInFrame) place
cut_at parts.Quoted place = ends_so (Some EndInFrame) place
cut_at parts.Character place = ends_so (Some EndInFrame) place
cut_at parts.Label place = ends_so (Some EndInFrame) place
cut_at parts.Packed place = ends_so (Some EndInFrame) place
cut_at (parts.Line passing matched line) place = Some (told_of passing (spellings.Line (number_of line)))
cut_at (parts.Foreign matched) place = None

abbrev pub at_end : Standing → ℕ → List ℕ → Option Refusal
at_end (Reads context) place bytes = ends_so (end_cause context bytes) (item_place context place)
at_end (Passes part) place bytes = cut_at part place

-- ---- the survey

-- From where a reading stands, with so many bytes before these, which are all that come, these refusals are told:
-- items are read as the lexer reads them; a fault, and each byte that is passed over, comes to a turn;
-- and where nothing more is decided, the bytes end.
pub data Tells : Standing → ℕ → List ℕ → List Refusal → Type 0 where
  reads : {context last : Context} {place end : ℕ} {bytes rest : List ℕ} {items : List Placed}
      {told : List Refusal} →
      ReadsTo true context place bytes items last end rest →
      Tells (Reads last) end rest told → Tells (Reads context) place bytes told
  turns : {standing : Standing} {place : ℕ} {bytes : List ℕ} {told : List Refusal} (next : Turn) →
      next_turn true standing place bytes ≡ Some next →
      Tells (standing_of next.onto) (place + taken next) (drop (taken next) bytes) told →
      Tells standing place bytes (option_to_list next.told ++ told)
  ends : {standing : Standing} {place : ℕ} {bytes : List ℕ} →
      Waits true standing bytes → Tells standing place bytes (option_to_list (at_end standing place bytes))

-- all bytes of a job, and what is told of them
abbrev pub IsSurvey : List ℕ → List Refusal → Type 0
IsSurvey job told = Tells (Reads Pcl) 0 job told
