-- What stands first in bytes.
use Rattle.std.specs.Prelude.{ℕ, ◌+◌, ◌-◌, ◌==◌, nat_lt, nat_le, List, [], ◌∷◌, length, take, drop, Bool, ◌||◌, Option}
use Rattle.std.specs.Prelude.{None, Some, if◌then◌else◌}
use Rattle.std.specs.Int.{is_in_range}
use Rattle.pcl_items.specs.declared.pcl.command.Group.{Group}
use Rattle.pcl_items.specs.declared.pcl.command.Command.{Command}
use Rattle.pcl_items.specs.declared.pcl.command.DataCommand.{DataCommand}
use Rattle.pcl_items.specs.declared.fault.Name.TheVariants as names
use Rattle.pcl_items.specs.declared.fault.LexCause.TheVariants.{Syntax, NotInProfile, BadNumber}
use Rattle.pcl_lexer.specs.Lexing.Contexts.{Context, Pcl, Sequence, Frame, Letters, Numbered, Pjl}
pub use Rattle.pcl_lexer.specs.Lexing.Contexts.{item_place}
pub use Rattle.pcl_lexer.specs.Lexing.Firsts.{First, Open, Passes, Begins, Faulty, behind, is_group_or_parameter}
pub use Rattle.pcl_lexer.specs.Lexing.Firsts.{is_termination, exit_or}
use Rattle.pcl_lexer.specs.Frames.Reader.{at_frame, after_letters, after_numbers}
use Rattle.pcl_items.specs.Escapes.Commands.{group_at, command_at, data_command_at}
use Rattle.pcl_items.specs.Escapes.Value.{Amount}
use Rattle.pcl_lexer.specs.Escapes.Field.{Field, field_at, amount_of}
use Rattle.pcl_items.specs.Items.{Entry, Text, Parameterized, EnterFrame, WithData, PjlLine}
use Rattle.pcl_lexer.specs.Escapes.Ungrouped.{ungrouped_at, count_of}
use Rattle.pcl_items.specs.Escapes.Codes.{control_at, sequence_at}
use Rattle.pcl_items.specs.Modes.{behind_pjl}
use Rattle.pcl_lexer.specs.Modes.{between}
use Rattle.pcl_items.specs.PjlLines.Text.{at_sign}
use Rattle.pcl_items.specs.PjlLines.First as lines

abbrev pub named : Option Command → Group → ℕ → Amount → ℕ → Context → First
named None group letter amount len next = Faulty (NotInProfile (names.Command group letter))
named (Some command) group letter amount len next = Begins (Parameterized command amount) len next

-- the data behind a command that ends the sequence; before all of them are there nothing is decided
abbrev pub with_data : DataCommand → Option ℕ → ℕ → List ℕ → First
with_data command None len bytes = Faulty BadNumber
with_data command (Some n) len bytes =
    if nat_lt (length bytes) n then Open else Begins (WithData command (take n bytes)) (len + n) Pcl

abbrev pub by_last_letter : Option DataCommand → Group → ℕ → Amount → ℕ → List ℕ → First
by_last_letter None group letter amount len bytes = named (command_at group letter) group letter amount len Pcl
by_last_letter (Some command) group letter amount len bytes = with_data command (count_of amount) len bytes

-- a command with data ends its sequence
abbrev pub by_other_letter : Option DataCommand → Group → ℕ → Amount → ℕ → First
by_other_letter None group letter amount len = named (command_at group letter) group letter amount len (Sequence group)
by_other_letter (Some command) group letter amount len = Faulty Syntax

-- the byte after a field whose number is in the limits
abbrev pub by_last_byte : Option Amount → Group → ℕ → ℕ → List ℕ → First
by_last_byte None group len c bytes = Faulty BadNumber
by_last_byte (Some amount) group len c bytes =
    if is_group_or_parameter c then by_other_letter (data_command_at group (c - 32)) group (c - 32) amount (len + 1)
    else if is_termination c then by_last_letter (data_command_at group c) group c amount (len + 1) bytes
    else Faulty Syntax

abbrev pub after_field : Group → Field → List ℕ → First
after_field group f [] = Open
after_field group f (c ∷ bytes) = by_last_byte (amount_of f) group f.len c bytes

-- a command of a group
unfoldable pub command_in : Group → List ℕ → First
command_in group bytes =
    if nat_lt 16 (field_at bytes).len then Faulty BadNumber
    else after_field group (field_at bytes) (drop (field_at bytes).len bytes)

-- before what comes behind a sequence without a group
abbrev pub behind_ungrouped : Entry → Context
behind_ungrouped (EnterFrame handover) = Frame
behind_ungrouped item = Pcl

-- a sequence without a group, of so many bytes from ESC on
abbrev pub ungrouped : Option Entry → ℕ → ℕ → ℕ → First
ungrouped None introducer c len = Faulty (NotInProfile (names.Pair introducer c))
ungrouped (Some item) introducer c len = Begins item len (behind_ungrouped item)

abbrev pub by_termination : Option Amount → ℕ → ℕ → ℕ → First
by_termination None introducer len c = Faulty BadNumber
by_termination (Some amount) introducer len c =
    if is_termination c then ungrouped (ungrouped_at introducer amount c) introducer c (len + 3) else Faulty Syntax

abbrev pub after_ungrouped_field : ℕ → Field → List ℕ → First
after_ungrouped_field introducer f [] = Open
after_ungrouped_field introducer f (c ∷ bytes) = by_termination (amount_of f) introducer f.len c

unfoldable pub without_group : ℕ → List ℕ → First
without_group introducer bytes =
    if nat_lt 16 (field_at bytes).len then Faulty BadNumber
    else after_ungrouped_field introducer (field_at bytes) (drop (field_at bytes).len bytes)

abbrev pub in_group : Option Group → ℕ → ℕ → List ℕ → First
in_group None introducer c bytes = Faulty (NotInProfile (names.Pair introducer c))
in_group (Some group) introducer c bytes = behind 3 (command_in group bytes)

-- after an introducer that has a group
unfoldable pub after_introducer : ℕ → List ℕ → First
after_introducer introducer [] = Open
after_introducer introducer (c ∷ bytes) =
    if is_group_or_parameter c then in_group (group_at introducer c) introducer c bytes else Faulty Syntax

-- after `(`, which may have one
unfoldable pub after_parenthesis : List ℕ → First
after_parenthesis [] = Open
after_parenthesis (c ∷ bytes) =
    if is_group_or_parameter c then in_group (group_at 40 c) 40 c bytes else without_group 40 (c ∷ bytes)

-- after ESC and a byte: a sequence of these two, or else one that goes on
abbrev pub by_character : Option Entry → ℕ → List ℕ → First
by_character (Some item) b bytes = Begins item 2 Pcl
by_character None b bytes =
    if (b == 38) || (b == 42) then after_introducer b bytes
    else if b == 40 then after_parenthesis bytes
    else if b == 37 then exit_or (without_group 37 bytes) bytes
    else if is_in_range 33 126 b then Faulty (NotInProfile (names.Byte b)) else Faulty Syntax

unfoldable pub after_escape : List ℕ → First
after_escape [] = Open
after_escape (b ∷ bytes) = by_character (sequence_at b) b bytes

-- a control code, or else an escape sequence
abbrev pub by_code : Option Entry → ℕ → List ℕ → First
by_code (Some item) b bytes = Begins item 1 Pcl
by_code None b bytes = if b == 27 then after_escape bytes else Faulty (NotInProfile (names.Byte b))

-- a byte of text, or else a control code or an escape sequence
abbrev pub between_units : ℕ → List ℕ → First
between_units b bytes = if nat_le 32 b then Begins (Text b) 1 Pcl else by_code (control_at b) b bytes

-- what stands first where a line begins
abbrev pub by_pjl : lines.FirstPjl → First
by_pjl lines.Open = Open
by_pjl (lines.Begins line len) = Begins (PjlLine line) len (between (behind_pjl line))
by_pjl (lines.Faulty cause) = Faulty cause

-- What stands first. Whether these are all bytes that come matters within a command of a frame alone.
unfoldable pub first_of : Bool → Context → List ℕ → First
first_of whole Pcl [] = Open
first_of whole Pcl (b ∷ bytes) = between_units b bytes
first_of whole (Sequence group) bytes = command_in group bytes
first_of whole Frame bytes = at_frame bytes
first_of whole (Letters mnemonic n) bytes = after_letters whole mnemonic n bytes
first_of whole (Numbered numbers gap n) bytes = after_numbers whole numbers gap n bytes
first_of whole Pjl [] = Open
first_of whole Pjl (b ∷ bytes) = if b == at_sign then by_pjl (lines.at_pjl (b ∷ bytes)) else between_units b bytes
