-- What stands first, as the code has it.
use Rattle.std.specs.Prelude.{◌≡◌, ℕ, ◌-◌, ◌≤◌, List, take, drop, Option, None, Some}
use Rattle.pcl_lexer.specs.declared.lexer.first.Head.{Head}
use Rattle.pcl_lexer.specs.declared.lexer.first.Head.TheVariants as heads
use Rattle.pcl_lexer.specs.declared.lexer.first.First as code
use Rattle.pcl_lexer.specs.declared.lexer.first.First.TheVariants as firsts
use Rattle.pcl_lexer.specs.declared.lexer.first.Context as code_context
use Rattle.pcl_lexer.specs.declared.lexer.first.Context.TheVariants as contexts
use Rattle.pcl_lexer.specs.declared.lexer.first.Numbers as code_numbers
use Rattle.pcl_lexer.specs.declared.lexer.first.Numbers.TheVariants as numbers
use Rattle.pcl_lexer.specs.Lexing.Contexts.{Context, Pcl, Sequence, Frame, Letters, Numbered, Pjl, Numbers, Single, Odd}
use Rattle.pcl_lexer.specs.Lexing.Contexts.{Even, counted}
use Rattle.pcl_items.specs.Items.{Entry, Text, simple_view, WithData, PjlLine}
use Rattle.pcl_items.specs.PjlLines.Text.{PjlCommand, Bare}
use Rattle.pcl_items.specs.PjlLines.Reader.{pjl_command_of}
use Rattle.pcl_items.specs.PjlLines.Canon.{IsSpelledPjl}
use Rattle.pcl_lexer.specs.Lexing.Firsts.{First, Open, Passes, Begins, Faulty}

abbrev pub numbers_view : code_numbers.Numbers → Numbers
numbers_view (numbers.Single setting number) = Single setting number.ten_thousandths
numbers_view (numbers.Odd motion x) = Odd motion x.units
numbers_view (numbers.Even motion) = Even motion

abbrev pub context_view : code_context.Context → Context
context_view contexts.Pcl = Pcl
context_view (contexts.Sequence group) = Sequence group
context_view contexts.Frame = Frame
context_view (contexts.Letters mnemonic n) = Letters mnemonic n
context_view (contexts.Numbered numbers gap n) = Numbered (numbers_view numbers) gap n
context_view contexts.Pjl = Pjl

-- how many bytes end the item behind what else spells it: its data, or the newline of a line
abbrev pub data_len : Head → ℕ
data_len (heads.Text byte) = 0
data_len (heads.Simple item) = 0
data_len (heads.WithData command count) = count.bytes
data_len heads.PjlLine = 1

-- a line that was read, where one was
abbrev pub pjl_read : Option PjlCommand → PjlCommand
pjl_read None = Bare
pjl_read (Some line) = line

-- the item of so many bytes in front
abbrev pub head_view : Head → ℕ → List ℕ → Entry
head_view (heads.Text byte) len bytes = Text byte.code
head_view (heads.Simple item) len bytes = simple_view item
head_view (heads.WithData command count) len bytes =
    WithData command (take count.bytes (drop (len - count.bytes) bytes))
head_view heads.PjlLine len bytes = PjlLine (pjl_read (pjl_command_of (take (len - 1) bytes)))

-- where the item is a line, so many bytes in front spell one
abbrev pub HasPjl : Head → ℕ → List ℕ → Type 0
HasPjl (heads.Text byte) len bytes = Unit {0}
HasPjl (heads.Simple item) len bytes = Unit {0}
HasPjl (heads.WithData command count) len bytes = Unit {0}
HasPjl heads.PjlLine len bytes =
    (line : PjlCommand) × (pjl_command_of (take (len - 1) bytes) ≡ Some line) × IsSpelledPjl line

abbrev pub first_view : List ℕ → code.First → First
first_view bytes firsts.Open = Open
first_view bytes (firsts.Passes len next) = Passes len (context_view next)
first_view bytes (firsts.Begins len head next) = Begins (head_view head len bytes) len (context_view next)
first_view bytes (firsts.Faulty cause) = Faulty cause

-- what is passed over or is an item lies within n bytes, its data within it
abbrev pub Within : ℕ → code.First → Type 0
Within n firsts.Open = Unit {0}
Within n (firsts.Passes len next) = len ≤ n
Within n (firsts.Begins len head next) = (len ≤ n) × (data_len head ≤ len)
Within n (firsts.Faulty cause) = Unit {0}

-- so where it is an item
abbrev pub FirstHasPjl : List ℕ → code.First → Type 0
FirstHasPjl bytes firsts.Open = Unit {0}
FirstHasPjl bytes (firsts.Passes len next) = Unit {0}
FirstHasPjl bytes (firsts.Begins len head next) = HasPjl head len bytes
FirstHasPjl bytes (firsts.Faulty cause) = Unit {0}

-- how many bytes it takes
abbrev pub len_of : First → ℕ
len_of Open = 0
len_of (Passes len next) = len
len_of (Begins item len next) = len
len_of (Faulty cause) = 0

-- how many bytes are counted before what follows
abbrev pub counted_after : First → ℕ
counted_after Open = 0
counted_after (Passes len next) = counted next
counted_after (Begins item len next) = counted next
counted_after (Faulty cause) = 0
