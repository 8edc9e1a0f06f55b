-- A parameterized command that stands first, or a command with its data.
use Rattle.std.specs.Prelude.{◌≡◌, ◌⊎◌, ◌≤◌, ◌+◌, ◌-◌, ℕ, List, length, take, drop, Bool, Some}
use Rattle.pcl_items.specs.declared.pcl.command.Group.{Group}
use Rattle.pcl_lexer.specs.Lexing.Contexts.{Context}
use Rattle.pcl_lexer.specs.declared.lexer.first.Context.TheVariants as contexts
use Rattle.pcl_lexer.specs.declared.pcl.field.EndedField.{EndedField}
use Rattle.pcl_lexer.specs.declared.pcl.parameterized.ReadCommand.{ReadCommand}
use Rattle.pcl_lexer.specs.declared.pcl.command_with_data.ReadWithData.{ReadWithData}
use Rattle.pcl_items.specs.Items.{amount, Parameterized, WithData}
use Rattle.pcl_lexer.specs.Lexing.FirstView.{context_view}
use Rattle.pcl_lexer.specs.Reader.{First, Begins, by_last_byte, command_in, first_of}

-- what stands first where this command was read
abbrev pub first_by : ReadCommand → First
first_by read = Begins (Parameterized read.command (amount read.number)) read.len (context_view read.next)

-- the bytes from this context on begin with the command
abbrev pub IsAhead : ReadCommand → Context → List ℕ → Type 0
IsAhead read context bytes = ((whole : Bool) → first_of whole context bytes ≡ first_by read) × (read.len ≤ length bytes)

-- the bytes behind the characters of a group begin with the command
abbrev pub IsInGroup : ReadCommand → Group → List ℕ → Type 0
IsInGroup read group bytes = (command_in group bytes ≡ first_by read) × (read.len ≤ length bytes)

-- the byte behind the field ends the command
abbrev pub IsEndedBy : ReadCommand → Group → EndedField → Type 0
IsEndedBy read group field =
    ((bytes : List ℕ) → by_last_byte (Some (amount field.number)) group field.len field.last bytes ≡ first_by read)
    × (read.len ≡ field.len + 1)

-- the command ends its sequence, or a further one of the group is due
abbrev pub GoesOnIn : Group → ReadCommand → Type 0
GoesOnIn group read = (read.next ≡ contexts.Pcl) ⊎ (read.next ≡ contexts.Sequence group)

-- what stands first where this command was read with its data, which end its bytes
abbrev pub first_with_data : ReadWithData → List ℕ → First
first_with_data read bytes =
    Begins (WithData read.command (take read.count.bytes (drop (read.len - read.count.bytes) bytes))) read.len
    (context_view read.next)

-- the command's bytes are there, and its data among them
abbrev pub HasItsData : ReadWithData → List ℕ → Type 0
HasItsData read bytes = (read.len ≤ length bytes) × (read.count.bytes ≤ read.len)

-- the bytes from this context on begin with the command and its data
abbrev pub IsAheadWithData : ReadWithData → Context → List ℕ → Type 0
IsAheadWithData read context bytes =
    ((whole : Bool) → first_of whole context bytes ≡ first_with_data read bytes) × HasItsData read bytes

-- the bytes behind the characters of a group begin with the command and its data
abbrev pub IsInGroupWithData : ReadWithData → Group → List ℕ → Type 0
IsInGroupWithData read group bytes = (command_in group bytes ≡ first_with_data read bytes) × HasItsData read bytes
