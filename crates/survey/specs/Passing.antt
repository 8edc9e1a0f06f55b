-- What of refused bytes is passed over, byte by byte, and where reading begins again.
use Rattle.std.specs.Prelude.{ℕ, ◌+◌, ◌-◌, ◌*◌, ◌==◌, ◌&&◌, ◌||◌, nat_lt, nat_le, Bool, true, false, List, codes}
use Rattle.std.specs.Prelude.{get_or, Option, None, Some, if◌then◌else◌}
use Rattle.std.specs.Int.{is_in_range}
use Rattle.pcl_items.specs.declared.pcl.command.Group.{Group}
use Rattle.pcl_items.specs.Escapes.Commands.{group_at}
use Rattle.pcl_items.specs.Frames.Mnemonics.{capital}
use Rattle.pcl_items.specs.PjlLines.Exit.{exit_text}
use Rattle.pcl_items.specs.PjlLines.Text.{is_blank}
use Rattle.pcl_lexer.specs.declared.frame.Kind.{Kind}
use Rattle.pcl_lexer.specs.declared.frame.Kind.TheVariants as kinds
use Rattle.pcl_lexer.specs.Frames.Kinds.{kind_of}
use Rattle.pcl_lexer.specs.Lexing.Firsts.{is_group_or_parameter, is_termination}
use Rattle.survey.specs.declared.refusal.Refusal.{Refusal}
use Rattle.survey.specs.declared.refusal.Spelled.{Spelled}
use Rattle.survey.specs.declared.refusal.Spelled.TheVariants as spellings
use Rattle.survey.specs.declared.part.Count.{Count}
use Rattle.survey.specs.declared.part.Home.{Home}
use Rattle.survey.specs.declared.part.Home.TheVariants as homes
use Rattle.survey.specs.declared.part.Onto.{Onto}
use Rattle.survey.specs.declared.part.Onto.TheVariants as onto
use Rattle.survey.specs.declared.part.Part.{Part}
use Rattle.survey.specs.declared.part.Part.TheVariants.{Escape, Introduced, Grouped, Ungrouped, Data, Inner, Second}
use Rattle.survey.specs.declared.part.Part.TheVariants.{Numbers, Quoted, Character, Label, Packed, Line, Foreign}
use Rattle.survey.specs.declared.part.Passing.{Passing}
use Rattle.survey.specs.declared.part.Turn.{Turn}
use Rattle.survey.specs.declared.named_line.NamedLine.{NamedLine}
use Rattle.survey.specs.DataCommands.{has_data}
use Rattle.survey.specs.NamedLines.{line_on, number_of}

-- ---- turns

-- how many bytes are passed over
abbrev pub taken : Turn → ℕ
taken turn = if turn.is_taken then 1 else 0

-- a byte is passed over, with which nothing that is told ends
abbrev pub passes_to : Onto → Turn
passes_to next = record { is_taken = true; told = None; onto = next }

-- and then this part
abbrev pub goes_on : Part → Turn
goes_on part = passes_to (onto.Part part)

-- the byte is none of what is passed over
abbrev pub leaves : Onto → Turn
leaves next = record { is_taken = false; told = None; onto = next }

-- where reading begins again behind an escape sequence
abbrev pub back : Home → Onto
back homes.Page = onto.Page
back homes.Frame = onto.Frame

-- what is told of a command at its end
abbrev pub told_of : Passing → Spelled → Refusal
told_of passing spelled = record { cause = passing.cause; spelled = spelled; place = passing.begun }

-- with the byte that ends which is spelled so
abbrev pub ends : Passing → Spelled → Onto → Turn
ends passing spelled next = record { is_taken = true; told = Some (told_of passing spelled); onto = next }

-- the byte is no part of the escape sequence, and that has no end
abbrev pub breaks : Passing → Turn
breaks passing = record { is_taken = false; told = Some (told_of passing spellings.Unended); onto = back passing.home }

-- ---- value fields

abbrev pub is_field_byte : ℕ → Bool
is_field_byte b = is_in_range 48 57 b || (b == 43) || (b == 45) || (b == 46)

abbrev pub no_count : Count
no_count = record { bytes = 0; is_over = false }

-- the number with a further digit, or the most that it may be
abbrev pub with_digit : ℕ → ℕ → ℕ
with_digit number digit = if nat_le (number * 10 + digit) 32767 then number * 10 + digit else 32767

-- the count with a further byte of the field: the digits before a minus and a point
abbrev pub count_on : Count → ℕ → Count
count_on count b =
    if (b == 45) || (b == 46) then record count { is_over = true }
    else if is_in_range 48 57 b then
    (if count.is_over then count else record { bytes = with_digit count.bytes (b - 48); is_over = false })
    else count

-- ---- escape sequences

-- so many bytes of data, or what stands behind them
abbrev pub behind_count : Home → ℕ → Onto
behind_count home n = if n == 0 then back home else onto.Part (Data home n)

abbrev pub in_data : Home → ℕ → Turn
in_data home n = passes_to (behind_count home (n - 1))

-- the last command of a sequence: its data, where it has any
abbrev pub behind_last : Home → (introducer group letter : ℕ) → Count → Onto
behind_last home introducer group letter count =
    if has_data introducer group letter then behind_count home count.bytes else back home

-- a further command of a combined sequence, which is read again where the language has its group
abbrev pub next_command : Home → Option Group → Part → Onto
next_command homes.Page (Some group) part = onto.Group group
next_command homes.Page None part = onto.Part part
next_command homes.Frame found part = onto.Part part

-- behind a parameter character with so many bytes before it
abbrev pub behind_parameter : Passing → (introducer group place : ℕ) → Onto
behind_parameter passing introducer group place =
    next_command passing.home (group_at introducer group)
    (Grouped (record passing { begun = place + 1 }) introducer group no_count)

-- how many bytes of data stand behind a command
abbrev pub data_of : (introducer group letter : ℕ) → Count → ℕ
data_of introducer group letter count = if has_data introducer group letter then count.bytes else 0

-- behind the parameter character the same, where the data of its command are over
abbrev pub behind_inner : Passing → (introducer group n place : ℕ) → Onto
behind_inner passing introducer group n place =
    if n == 0 then behind_parameter passing introducer group place
    else onto.Part (Inner passing introducer group n)

abbrev pub in_inner : Passing → (introducer group n place : ℕ) → Turn
in_inner passing introducer group n place = passes_to (behind_inner passing introducer group (n - 1) place)

abbrev pub in_grouped : Passing → (introducer group : ℕ) → Count → (place b : ℕ) → Turn
in_grouped passing introducer group count place b =
    if is_field_byte b then goes_on (Grouped passing introducer group (count_on count b))
    else if is_group_or_parameter b then
    ends passing (spellings.Grouped introducer group (b - 32))
    (behind_inner passing introducer group (data_of introducer group (b - 32) count) place)
    else if is_termination b then
    ends passing (spellings.Grouped introducer group b) (behind_last passing.home introducer group b count)
    else breaks passing

-- ESC % # A leads to mode PCL, and ESC % # B into a frame
abbrev pub behind_ungrouped : Home → (introducer letter : ℕ) → Onto
behind_ungrouped home introducer letter =
    if introducer == 37 then
    (if letter == 65 then onto.Page else if letter == 66 then onto.Frame else back home)
    else back home

abbrev pub in_ungrouped : Passing → (introducer b : ℕ) → Turn
in_ungrouped passing introducer b =
    if is_field_byte b then goes_on (Ungrouped passing introducer)
    else if is_termination b then
    ends passing (spellings.Ungrouped introducer b) (behind_ungrouped passing.home introducer b)
    else breaks passing

-- behind an introducer a group character, or a value field without one
abbrev pub introduced : Passing → (introducer b : ℕ) → Turn
introduced passing introducer b =
    if is_group_or_parameter b then goes_on (Grouped passing introducer b no_count)
    else in_ungrouped passing introducer b

-- behind ESC an introducer, or the character of a sequence of two
abbrev pub behind_escape : Passing → ℕ → Turn
behind_escape passing b =
    if is_in_range 33 47 b then goes_on (Introduced passing b)
    else if is_in_range 48 126 b then ends passing (spellings.Sequence b) (back passing.home)
    else breaks passing

-- ---- instructions of HP-GL/2

-- LB and BL have a text up to ETX, PE packed numbers, DT and SM a character that stands for itself
abbrev pub behind_letters : (first second : ℕ) → Part
behind_letters first second =
    if ((first == 66) && (second == 76)) || ((first == 76) && (second == 66)) then Label
    else if (first == 80) && (second == 69) then Packed
    else if ((first == 68) && (second == 84)) || ((first == 83) && (second == 77)) then Character
    else Numbers

-- up to the end of the instruction, which is read again
abbrev pub by_kind : Kind → ℕ → Turn
by_kind kinds.Letter b = leaves onto.Frame
by_kind kinds.Semicolon b = leaves onto.Frame
by_kind kinds.Escape b = leaves onto.Frame
by_kind kind b = if b == 34 then goes_on Quoted else goes_on Numbers

abbrev pub in_numbers : ℕ → Turn
in_numbers b = by_kind (kind_of b) b

-- an ESC ends each of these
abbrev pub in_quoted : ℕ → Turn
in_quoted b = if b == 34 then goes_on Numbers else if b == 27 then leaves onto.Frame else goes_on Quoted

abbrev pub in_character : ℕ → Turn
in_character b = if (b == 59) || (b == 27) then leaves onto.Frame else goes_on Numbers

abbrev pub in_label : ℕ → Turn
in_label b = if b == 3 then passes_to onto.Frame else if b == 27 then leaves onto.Frame else goes_on Label

abbrev pub in_packed : ℕ → Turn
in_packed b = if b == 59 then passes_to onto.Frame else if b == 27 then leaves onto.Frame else goes_on Packed

-- ---- lines of the job language, and other languages

-- the words behind `@` of a line that enters PCL
abbrev pub enter_pcl : List ℕ
enter_pcl = codes "PJL ENTER LANGUAGE=PCL"

-- a letter in either case, and one blank for all
abbrev pub word_byte : ℕ → ℕ
word_byte b = if is_blank b then 32 else capital b

-- behind so many bytes of these words further blanks may stand: before ENTER, LANGUAGE, the equals sign, PCL, the end
abbrev pub may_have_blanks : ℕ → Bool
may_have_blanks matched =
    (matched == 4) || (matched == 10) || (matched == 18) || (matched == 19) || (matched == 22)

-- how many bytes of these words stand in a line with one more byte; 23 where it enters another language, 24 where it
-- enters none
abbrev pub line_matched : (matched b : ℕ) → ℕ
line_matched matched b =
    if nat_lt matched 22 && (word_byte b == get_or enter_pcl matched 0) then matched + 1
    else if may_have_blanks matched && is_blank b then matched
    else if nat_lt matched 18 || (matched == 24) then 24 else 23

-- behind a line that enters another language than PCL that language stands
abbrev pub behind_line : ℕ → Onto
behind_line matched =
    if nat_lt matched 18 || (matched == 22) || (matched == 24) then onto.Lines else onto.Part (Foreign 0)

-- a line is told at its end, by its words
abbrev pub in_line : Passing → (matched : ℕ) → NamedLine → (b : ℕ) → Turn
in_line passing matched line b =
    if b == 10 then ends passing (spellings.Line (number_of line)) (behind_line matched)
    else goes_on (Line passing (line_matched matched b) (line_on line b))

-- another language ends with the universal exit, of nine bytes
abbrev pub in_foreign : (matched b : ℕ) → Turn
in_foreign matched b =
    if nat_lt matched 9 && (b == get_or exit_text matched 0) then
    (if matched + 1 == 9 then passes_to onto.Lines else goes_on (Foreign (matched + 1)))
    else goes_on (Foreign (if b == 27 then 1 else 0))

-- ---- a byte, with so many bytes before it

abbrev pub passed : Part → (place b : ℕ) → Turn
passed (Escape passing) place b = behind_escape passing b
passed (Introduced passing introducer) place b = introduced passing introducer b
passed (Grouped passing introducer group count) place b = in_grouped passing introducer group count place b
passed (Ungrouped passing introducer) place b = in_ungrouped passing introducer b
passed (Data home n) place b = in_data home n
passed (Inner passing introducer group n) place b = in_inner passing introducer group n place
passed (Second first second) place b = goes_on (behind_letters first second)
passed Numbers place b = in_numbers b
passed Quoted place b = in_quoted b
passed Character place b = in_character b
passed Label place b = in_label b
passed Packed place b = in_packed b
passed (Line passing matched line) place b = in_line passing matched line b
passed (Foreign matched) place b = in_foreign matched b
