-- What stands first in the bytes of a frame.
use Rattle.std.specs.Prelude.{ℕ, ℤ, ◌+◌, ◌==◌, nat_lt, List, [], ◌∷◌, drop, Bool, true, false, Option, None, Some}
use Rattle.std.specs.Prelude.{if◌then◌else◌}
use Rattle.pcl_lexer.specs.declared.frame.Kind.{Kind}
use Rattle.pcl_lexer.specs.declared.frame.Kind.TheVariants as kinds
use Rattle.pcl_items.specs.declared.frame.Motion.{Motion}
use Rattle.pcl_items.specs.declared.frame.Mnemonic.{Mnemonic}
use Rattle.pcl_items.specs.declared.frame.Mnemonic.TheVariants as mnemonics
use Rattle.pcl_lexer.specs.declared.frame.Gap.{Gap}
use Rattle.pcl_lexer.specs.declared.frame.Gap.TheVariants.{Straight, Comma}
use Rattle.pcl_items.specs.declared.fault.Name.TheVariants as names
use Rattle.pcl_items.specs.declared.fault.LexCause.TheVariants.{Syntax, NotInProfile, BadNumber}
use Rattle.pcl_lexer.specs.Frames.Kinds.{kind_of}
use Rattle.pcl_items.specs.Frames.Mnemonics.{capital, mnemonic_at}
use Rattle.pcl_lexer.specs.Escapes.Ungrouped.{leave_at}
use Rattle.pcl_lexer.specs.Lexing.Contexts.{Pcl, Frame, Letters, Numbered, Numbers, Single, Odd, Even, spaced}
use Rattle.pcl_lexer.specs.Lexing.Firsts.{First, Open, Passes, Begins, Faulty, is_termination, exit_or}
use Rattle.pcl_items.specs.Escapes.Value.{Amount}
use Rattle.pcl_lexer.specs.Escapes.Field.{Field, field_at, amount_of}
use Rattle.pcl_lexer.specs.Frames.Number.{coordinate_of, setting_of, Numeral, Cut, Wrong, Read, numeral_at}
use Rattle.pcl_items.specs.Items.{Entry, Reset, Set, Move, bare}

-- ---- enter PCL mode

abbrev pub left_by : Option Entry → ℕ → ℕ → First
left_by None c len = Faulty (NotInProfile (names.Pair 37 c))
left_by (Some item) c len = Begins item len Pcl

abbrev pub by_language : Option Amount → ℕ → ℕ → First
by_language None len c = Faulty BadNumber
by_language (Some amount) len c = if is_termination c then left_by (leave_at amount c) c (len + 3) else Faulty Syntax

abbrev pub after_language_field : Field → List ℕ → First
after_language_field f [] = Open
after_language_field f (c ∷ bytes) = by_language (amount_of f) f.len c

-- after ESC and `%`
unfoldable pub language_in : List ℕ → First
language_in bytes =
    if nat_lt 16 (field_at bytes).len then Faulty BadNumber
    else after_language_field (field_at bytes) (drop (field_at bytes).len bytes)

-- a frame stands behind it
abbrev pub enters_frame : First → Bool
enters_frame (Begins item len Frame) = true
enters_frame first = false

-- ---- between commands

abbrev pub in_command : Option Mnemonic → ℕ → ℕ → First
in_command None a b = Faulty (NotInProfile (names.Pair a b))
in_command (Some mnemonic) a b = Passes 2 (Letters mnemonic 2)

abbrev pub second_letter : Kind → ℕ → ℕ → First
second_letter kinds.Letter a b = in_command (mnemonic_at (capital a) (capital b)) (capital a) (capital b)
second_letter kind a b = Faulty Syntax

abbrev pub after_letter : ℕ → List ℕ → First
after_letter a [] = Open
after_letter a (b ∷ bytes) = second_letter (kind_of b) a b

abbrev pub after_frame_escape : List ℕ → First
after_frame_escape [] = Open
after_frame_escape (b ∷ bytes) =
    if b == 69 then Begins Reset 2 Pcl
    else if b == 37 then exit_or (language_in bytes) bytes else Faulty (NotInProfile (names.Byte b))

abbrev pub by_kind : Kind → ℕ → List ℕ → First
by_kind kinds.White b bytes = Passes 1 Frame
by_kind kinds.Semicolon b bytes = Passes 1 Frame
by_kind kinds.Letter b bytes = after_letter b bytes
by_kind kinds.Escape b bytes = after_frame_escape bytes
by_kind kind b bytes = Faulty Syntax

unfoldable pub at_frame : List ℕ → First
at_frame [] = Open
at_frame (b ∷ bytes) = by_kind (kind_of b) b bytes

-- ---- a number of a command

abbrev pub single : ℕ → (ℕ → Numbers) → Numeral ℕ → First
single n numbers Cut = Open
single n numbers (Wrong cause) = Faulty cause
single n numbers (Read amount len) = Passes len (Numbered (numbers amount) Straight (n + len))

-- the first coordinate of a pair
abbrev pub first_of_pair : ℕ → Motion → Numeral ℤ → First
first_of_pair n motion Cut = Open
first_of_pair n motion (Wrong cause) = Faulty cause
first_of_pair n motion (Read x len) = Passes len (Numbered (Odd motion x) Straight (n + len))

-- the second one, with which the pair is an item
abbrev pub second_of_pair : Motion → ℤ → Numeral ℤ → First
second_of_pair motion x Cut = Open
second_of_pair motion x (Wrong cause) = Faulty cause
second_of_pair motion x (Read y len) = Begins (Move motion (Some (x, y))) len (Numbered (Even motion) Straight 0)

-- ---- behind the letters

-- a number, where a command of these letters may have one
abbrev pub first_number : Bool → Mnemonic → ℕ → List ℕ → First
first_number whole mnemonics.Initialize n bytes = Faulty BadNumber
first_number whole (mnemonics.Sets setting) n bytes =
    single n (λ amount. Single setting amount) (numeral_at setting_of whole bytes)
first_number whole (mnemonics.Moves motion) n bytes = first_of_pair n motion (numeral_at coordinate_of whole bytes)

abbrev pub letters_by : Kind → Bool → Mnemonic → ℕ → List ℕ → First
letters_by kinds.White whole mnemonic n bytes = Passes 1 (Letters mnemonic (n + 1))
letters_by kinds.Semicolon whole mnemonic n bytes = Begins (bare mnemonic) 0 Frame
letters_by kinds.Letter whole mnemonic n bytes = Begins (bare mnemonic) 0 Frame
letters_by kinds.Escape whole mnemonic n bytes = Begins (bare mnemonic) 0 Frame
letters_by kinds.Sign whole mnemonic n bytes = first_number whole mnemonic n bytes
letters_by kinds.Figure whole mnemonic n bytes = first_number whole mnemonic n bytes
letters_by kinds.Comma whole mnemonic n bytes = Faulty Syntax
letters_by kinds.Other whole mnemonic n bytes = Faulty Syntax

unfoldable pub after_letters : Bool → Mnemonic → ℕ → List ℕ → First
after_letters whole mnemonic n [] = if whole then Begins (bare mnemonic) 0 Frame else Open
after_letters whole mnemonic n (b ∷ bytes) = letters_by (kind_of b) whole mnemonic n (b ∷ bytes)

-- ---- behind numbers

-- a further number
abbrev pub further : Bool → Numbers → List ℕ → First
further whole (Single setting amount) bytes = Faulty BadNumber
further whole (Odd motion x) bytes = second_of_pair motion x (numeral_at coordinate_of whole bytes)
further whole (Even motion) bytes = first_of_pair 0 motion (numeral_at coordinate_of whole bytes)

-- where a byte ends the command, which is no part of it
abbrev pub ended_by : Numbers → Gap → First
ended_by numbers Comma = Faulty Syntax
ended_by (Single setting amount) gap = Begins (Set setting amount) 0 Frame
ended_by (Odd motion x) gap = Faulty BadNumber
ended_by (Even motion) gap = Passes 0 Frame

-- where all bytes end
abbrev pub ended : Numbers → Gap → First
ended numbers Comma = Open
ended (Single setting amount) gap = Begins (Set setting amount) 0 Frame
ended (Odd motion x) gap = Open
ended (Even motion) gap = Passes 0 Frame

-- the gap with a comma behind it, of which it may have one
abbrev pub with_comma : Numbers → Gap → ℕ → First
with_comma numbers Comma n = Faulty Syntax
with_comma numbers gap n = Passes 1 (Numbered numbers Comma (n + 1))

-- a digit or a point begins a number only behind a gap
abbrev pub by_figure : Bool → Numbers → Gap → List ℕ → First
by_figure whole numbers Straight bytes = Faulty Syntax
by_figure whole numbers gap bytes = further whole numbers bytes

abbrev pub numbers_by : Kind → Bool → Numbers → Gap → ℕ → List ℕ → First
numbers_by kinds.White whole numbers gap n bytes = Passes 1 (Numbered numbers (spaced gap) (n + 1))
numbers_by kinds.Comma whole numbers gap n bytes = with_comma numbers gap n
numbers_by kinds.Semicolon whole numbers gap n bytes = ended_by numbers gap
numbers_by kinds.Letter whole numbers gap n bytes = ended_by numbers gap
numbers_by kinds.Escape whole numbers gap n bytes = ended_by numbers gap
numbers_by kinds.Sign whole numbers gap n bytes = further whole numbers bytes
numbers_by kinds.Figure whole numbers gap n bytes = by_figure whole numbers gap bytes
numbers_by kinds.Other whole numbers gap n bytes = Faulty Syntax

unfoldable pub after_numbers : Bool → Numbers → Gap → ℕ → List ℕ → First
after_numbers whole numbers gap n [] = if whole then ended numbers gap else Open
after_numbers whole numbers gap n (b ∷ bytes) = numbers_by (kind_of b) whole numbers gap n (b ∷ bytes)
