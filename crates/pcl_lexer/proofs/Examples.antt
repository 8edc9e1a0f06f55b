-- Jobs by hand, and what they spell. `^` in a comment stands for ESC.
use Rattle.std.specs.Prelude.{◌≡◌, ℕ, List, [], ◌∷◌, ◌++◌, codes, refl}
use Rattle.pcl_items.specs.declared.number.Sign.{Sign}
use Rattle.pcl_items.specs.declared.number.Sign.TheVariants.{Absent, Plus, Minus}
use Rattle.pcl_items.specs.declared.pcl.command.Command.{Command}
use Rattle.pcl_items.specs.declared.pcl.command.Command.TheVariants as commands
use Rattle.pcl_items.specs.declared.pcl.command.DataCommand.TheVariants.{TransparentText, RasterRow}
use Rattle.pcl_items.specs.declared.pcl.command.Group.TheVariants as groups
use Rattle.pcl_items.specs.declared.fault.Name.{Name}
use Rattle.pcl_items.specs.declared.fault.Name.TheVariants as names
use Rattle.pcl_items.specs.declared.fault.LexCause.{LexCause}
use Rattle.pcl_items.specs.declared.fault.LexCause.TheVariants.{Syntax, Truncated, NotInProfile, BadNumber}
use Rattle.pcl_items.specs.Items.{Entry, Text, CarriageReturn, LineFeed, FormFeed, Reset, ClearMargins, HalfLineFeed, Parameterized}
use Rattle.pcl_items.specs.Items.{SymbolSet, DefaultFont, WithData, at}
use Rattle.pcl_lexer.specs.Escapes.Field.{field_at, amount_of}
use Rattle.pcl_lexer.specs.Reader.{command_in, without_group, after_introducer, after_parenthesis, after_escape, first_of}
use Rattle.pcl_lexer.specs.Reading.{Reading, Whole, Stopped, read_on, reading_of}

-- an escape sequence
abbrev esc : List ℕ → List ℕ
esc bytes = 27 ∷ bytes

-- a command with so many ten-thousandths
abbrev sent : Command → Sign → ℕ → Entry
sent command sign n = Parameterized command (record { sign = sign; ten_thousandths = n })

-- a fault in the stead of the first item
abbrev at_once : LexCause → Reading
at_once cause = Stopped [] 0 cause

abbrev unnamed : Name → Reading
unnamed name = at_once (NotInProfile name)

-- `^E^&l2a66P`: a later command of a combined sequence stands at its value field, and so does its fault
unknown_letter : reading_of (esc (codes "E") ++ esc (codes "&l2a66P"))
    ≡ Stopped (at 0 Reset ∷ at 2 (sent commands.PageSize Absent 20000) ∷ []) 7 (NotInProfile (names.Command groups.Layout 80))
unfolding reading_of read_on first_of after_escape after_introducer command_in field_at amount_of
unknown_letter = refl

-- `^E^&l2a0O^*p300x300Y^*c100a50b0P\f`: a page with a rectangle
rectangle_page : reading_of (esc (codes "E") ++ esc (codes "&l2a0O") ++ esc (codes "*p300x300Y") ++ esc (codes "*c100a50b0P") ++ 12 ∷ [])
    ≡ Whole
    (at 0 Reset ∷ at 2 (sent commands.PageSize Absent 20000) ∷ at 7 (sent commands.Orientation Absent 0)
    ∷ at 9 (sent commands.HorizontalUnits Absent 3000000) ∷ at 16 (sent commands.VerticalUnits Absent 3000000)
    ∷ at 20 (sent commands.RectangleWidth Absent 1000000) ∷ at 27 (sent commands.RectangleHeight Absent 500000)
    ∷ at 30 (sent commands.FillRectangle Absent 0) ∷ at 32 FormFeed ∷ []) 33
unfolding reading_of read_on first_of after_escape after_introducer command_in field_at amount_of
rectangle_page = refl

-- no bytes
nothing : reading_of [] ≡ Whole [] 0
unfolding reading_of read_on first_of
nothing = refl

-- `^%-12345.0X`, `^%-012345X`, `^%-1B`: a sequence of `%` is named by its termination character
percent : (reading_of (esc (codes "%-12345.0X")) ≡ unnamed (names.Pair 37 88))
    × (reading_of (esc (codes "%-012345X")) ≡ unnamed (names.Pair 37 88)) × (reading_of (esc (codes "%-1B")) ≡ unnamed (names.Pair 37 66))
unfolding reading_of read_on first_of after_escape without_group field_at amount_of
percent = (refl, refl, refl)

-- `^&l1{`, `^&l1` and the byte 96: a parameter character is named by the termination character, also where it is no letter
named_as_termination : (reading_of (esc (codes "&l1{")) ≡ unnamed (names.Command groups.Layout 91))
    × (reading_of (esc (codes "&l1" ++ 96 ∷ [])) ≡ unnamed (names.Command groups.Layout 64))
unfolding reading_of read_on first_of after_escape after_introducer command_in field_at amount_of
named_as_termination = (refl, refl)

-- `^z`, `^*z`, `^(u`: other characters are named as they stand
named_as_read : (reading_of (esc (codes "z")) ≡ unnamed (names.Byte 122)) × (reading_of (esc (codes "*z")) ≡ unnamed (names.Pair 42 122))
    × (reading_of (esc (codes "(u")) ≡ unnamed (names.Pair 40 117))
unfolding reading_of read_on first_of after_escape after_introducer after_parenthesis
named_as_read = (refl, refl, refl)

-- `^ `, `^` and the byte 127, `^&l2_`, `^&l2` and the byte 127: no sequence goes on with these
no_sequence : (reading_of (esc (codes " ")) ≡ at_once Syntax) × (reading_of (esc (127 ∷ [])) ≡ at_once Syntax)
    × (reading_of (esc (codes "&l2_")) ≡ at_once Syntax) × (reading_of (esc (codes "&l2" ++ 127 ∷ [])) ≡ at_once Syntax)
unfolding reading_of read_on first_of after_escape after_introducer command_in field_at amount_of
no_sequence = (refl, refl, refl, refl)

-- `^_`, `^)` and what follows
no_command : (reading_of (esc (codes "_")) ≡ unnamed (names.Byte 95)) × (reading_of (esc (codes ")")) ≡ unnamed (names.Byte 41))
    × (reading_of (esc (codes ")A") ++ esc (codes "E") ++ 12 ∷ []) ≡ unnamed (names.Byte 41))
unfolding reading_of read_on first_of after_escape
no_command = (refl, refl, refl)

-- `^*p-X^*p.X^*p+.X^&lO`: a field of a sign, a point or both is 0 with that sign
empty_fields : reading_of (esc (codes "*p-X") ++ esc (codes "*p.X") ++ esc (codes "*p+.X") ++ esc (codes "&lO"))
    ≡ Whole
    (at 0 (sent commands.HorizontalUnits Minus 0) ∷ at 5 (sent commands.HorizontalUnits Absent 0)
    ∷ at 10 (sent commands.HorizontalUnits Plus 0) ∷ at 16 (sent commands.Orientation Absent 0) ∷ [])
    20
unfolding reading_of read_on first_of after_escape after_introducer command_in field_at amount_of
empty_fields = refl

-- `^*p65535.5X`, `^*c1.00001A`: past the limit, and a fifth decimal; `^*c65535.00000A`: any number of zeros may follow
decimals : (reading_of (esc (codes "*p65535.5X")) ≡ at_once BadNumber) × (reading_of (esc (codes "*c1.00001A")) ≡ at_once BadNumber)
    × (reading_of (esc (codes "*c65535.00000A")) ≡ Whole (at 0 (sent commands.RectangleWidth Absent 655350000) ∷ []) 15)
unfolding reading_of read_on first_of after_escape after_introducer command_in field_at amount_of
decimals = (refl, refl, refl)

-- `^*p1.2.3X`, `^*p1.00000000000000.`: a second point ends the field
second_point : (reading_of (esc (codes "*p1.2.3X")) ≡ at_once Syntax) × (reading_of (esc (codes "*p1.00000000000000.")) ≡ at_once Syntax)
unfolding reading_of read_on first_of after_escape after_introducer command_in field_at amount_of
second_point = (refl, refl)

-- `^*p1000000000000000.`, `^*p00000000000000000`: a 17th character; `^*p0000000000000000`: 16, and then the end
long_fields : (reading_of (esc (codes "*p1000000000000000.")) ≡ at_once BadNumber)
    × (reading_of (esc (codes "*p00000000000000000")) ≡ at_once BadNumber)
    × (reading_of (esc (codes "*p0000000000000000")) ≡ at_once Truncated)
unfolding reading_of read_on first_of after_escape after_introducer command_in field_at amount_of
long_fields = (refl, refl, refl)

-- `^*b70000w`, `^&l70000p`: the number is judged before the letter
number_first : (reading_of (esc (codes "*b70000w")) ≡ at_once BadNumber) × (reading_of (esc (codes "&l70000p")) ≡ at_once BadNumber)
unfolding reading_of read_on first_of after_escape after_introducer command_in field_at amount_of
number_first = (refl, refl)

-- `^(` and a carriage return, `^(8u`: neither group, field nor termination character; `^(8X`, `^(-3@`: no command
parenthesis : (reading_of (esc (codes "(" ++ 13 ∷ [])) ≡ at_once Syntax) × (reading_of (esc (codes "(8u")) ≡ at_once Syntax)
    × (reading_of (esc (codes "(8X")) ≡ unnamed (names.Pair 40 88)) × (reading_of (esc (codes "(-3@")) ≡ unnamed (names.Pair 40 64))
unfolding reading_of read_on first_of after_escape after_parenthesis without_group field_at amount_of
parenthesis = (refl, refl, refl, refl)

-- `^&l2a`, `^&l2a^E`: behind a parameter character a further command is due
due_command : (reading_of (esc (codes "&l2a")) ≡ Stopped (at 0 (sent commands.PageSize Absent 20000) ∷ []) 5 Truncated)
    × (reading_of (esc (codes "&l2a") ++ esc (codes "E")) ≡ Stopped (at 0 (sent commands.PageSize Absent 20000) ∷ []) 5 Syntax)
unfolding reading_of read_on first_of after_escape after_introducer command_in field_at amount_of
due_command = (refl, refl)

-- `^&b`: a group that is not there; `^&a`, `^&a!`: one that is; `^*b2Xab`: no data belong to an unknown letter
known_groups : (reading_of (esc (codes "&b")) ≡ unnamed (names.Pair 38 98)) × (reading_of (esc (codes "&a")) ≡ at_once Truncated)
    × (reading_of (esc (codes "&a!")) ≡ at_once Syntax) × (reading_of (esc (codes "*b2Xab")) ≡ unnamed (names.Command groups.RasterData 88))
unfolding reading_of read_on first_of after_escape after_introducer command_in field_at amount_of
known_groups = (refl, refl, refl, refl)

-- `a`, the bytes 127 and 200: text, one item a byte; `^&l02A^)`: a fault behind an item
text_bytes : (reading_of (97 ∷ 127 ∷ 200 ∷ []) ≡ Whole (at 0 (Text 97) ∷ at 1 (Text 127) ∷ at 2 (Text 200) ∷ []) 3)
    × (reading_of (esc (codes "&l02A") ++ esc (codes ")"))
    ≡ Stopped (at 0 (sent commands.PageSize Absent 20000) ∷ []) 6 (NotInProfile (names.Byte 41)))
unfolding reading_of read_on first_of after_escape after_introducer command_in field_at amount_of
text_bytes = (refl, refl)

-- `^&p3XA B`, `^&p+03.0XA B`, `^&p-0X`: data, as many bytes as the number counts
transparent_text : (reading_of (esc (codes "&p3XA BC")) ≡ Whole (at 0 (WithData TransparentText (codes "A B")) ∷ at 8 (Text 67) ∷ []) 9)
    × (reading_of (esc (codes "&p+03.0XA B")) ≡ Whole (at 0 (WithData TransparentText (codes "A B")) ∷ []) 12)
    × (reading_of (esc (codes "&p-0X")) ≡ Whole (at 0 (WithData TransparentText []) ∷ []) 6)
unfolding reading_of read_on first_of after_escape after_introducer command_in field_at amount_of
transparent_text = (refl, refl, refl)

-- `^&p5XAB`: the bytes end in the data; `^&p3x`: more of the sequence; `^&p1.5X`, `^&p-1X`, `^&p32768X`: no count
no_data : (reading_of (esc (codes "&p5XAB")) ≡ at_once Truncated) × (reading_of (esc (codes "&p3x")) ≡ at_once Syntax)
    × (reading_of (esc (codes "&p1.5X")) ≡ at_once BadNumber) × (reading_of (esc (codes "&p-1X")) ≡ at_once BadNumber)
    × (reading_of (esc (codes "&p32768X")) ≡ at_once BadNumber)
unfolding reading_of read_on first_of after_escape after_introducer command_in field_at amount_of
no_data = (refl, refl, refl, refl, refl)

-- `^(10U^(03@^(+3.0@`: a symbol set, and twice the default font
symbol_sets : reading_of (esc (codes "(10U") ++ esc (codes "(03@") ++ esc (codes "(+3.0@"))
    ≡ Whole (at 0 (SymbolSet (record { sign = Absent; ten_thousandths = 100000 }) 85) ∷ at 5 DefaultFont ∷ at 10 DefaultFont ∷ []) 17
unfolding reading_of read_on first_of after_escape after_parenthesis without_group field_at amount_of
symbol_sets = refl

-- `\r\n\f^9^=^E`: control codes and sequences of two characters
short_items : reading_of (13 ∷ 10 ∷ 12 ∷ [] ++ esc (codes "9") ++ esc (codes "=") ++ esc (codes "E"))
    ≡ Whole (at 0 CarriageReturn ∷ at 1 LineFeed ∷ at 2 FormFeed ∷ at 3 ClearMargins ∷ at 5 HalfLineFeed ∷ at 7 Reset ∷ []) 9
unfolding reading_of read_on first_of after_escape
short_items = refl

-- `^&u300D^&l1x0s1h8c6d2e60f1L^&k12h2G`: settings
settings : reading_of (esc (codes "&u300D") ++ esc (codes "&l1x0s1h8c6d2e60f1L") ++ esc (codes "&k12h2G"))
    ≡ Whole
    (at 0 (sent commands.UnitOfMeasure Absent 3000000) ∷ at 7 (sent commands.Copies Absent 10000) ∷ at 12 (sent commands.Sides Absent 0)
    ∷ at 14 (sent commands.Source Absent 10000)
    ∷ at 16 (sent commands.VerticalMotionIndex Absent 80000) ∷ at 18 (sent commands.LineSpacing Absent 60000)
    ∷ at 20 (sent commands.TopMargin Absent 20000) ∷ at 22 (sent commands.TextLength Absent 600000)
    ∷ at 25 (sent commands.PerforationSkip Absent 10000) ∷ at 27 (sent commands.HorizontalMotionIndex Absent 120000)
    ∷ at 33 (sent commands.LineTermination Absent 20000) ∷ []) 35
unfolding reading_of read_on first_of after_escape after_introducer command_in field_at amount_of
settings = refl

-- `^&a5l75m10c+2r720h-36.5V^&f0s1S`: margins, the cursor and its stack
cursor : reading_of (esc (codes "&a5l75m10c+2r720h-36.5V") ++ esc (codes "&f0s1S"))
    ≡ Whole
    (at 0 (sent commands.LeftMargin Absent 50000) ∷ at 5 (sent commands.RightMargin Absent 750000)
    ∷ at 8 (sent commands.Column Absent 100000) ∷ at 11 (sent commands.Row Plus 20000)
    ∷ at 14 (sent commands.HorizontalDecipoints Absent 7200000) ∷ at 18 (sent commands.VerticalDecipoints Minus 365000)
    ∷ at 24 (sent commands.CursorStack Absent 0) ∷ at 29 (sent commands.CursorStack Absent 10000) ∷ []) 31
unfolding reading_of read_on first_of after_escape after_introducer command_in field_at amount_of
cursor = refl

-- the bytes 8, 9 and 14, `^7`, `^>`: other control codes and sequences of two characters
other_codes : (reading_of (8 ∷ []) ≡ unnamed (names.Byte 8)) × (reading_of (9 ∷ []) ≡ unnamed (names.Byte 9))
    × (reading_of (14 ∷ []) ≡ unnamed (names.Byte 14)) × (reading_of (esc (codes "7")) ≡ unnamed (names.Byte 55))
    × (reading_of (esc (codes ">")) ≡ unnamed (names.Byte 62))
unfolding reading_of read_on first_of after_escape
other_codes = (refl, refl, refl, refl, refl)

-- `^&k2S`, `^&a1P`: a letter of another group
other_groups : (reading_of (esc (codes "&k2S")) ≡ unnamed (names.Command groups.Spacing 83))
    × (reading_of (esc (codes "&a1P")) ≡ unnamed (names.Command groups.Position 80))
unfolding reading_of read_on first_of after_escape after_introducer command_in field_at amount_of
other_groups = (refl, refl)

-- `^*b2W` with the bytes 27 and 69, `^*b-0W`: a row of a raster; `^*b2w`, `^*b32768W`: no row
raster_row : (reading_of (esc (codes "*b2W") ++ 27 ∷ 69 ∷ []) ≡ Whole (at 0 (WithData RasterRow (27 ∷ 69 ∷ [])) ∷ []) 7)
    × (reading_of (esc (codes "*b-0W")) ≡ Whole (at 0 (WithData RasterRow []) ∷ []) 6) × (reading_of (esc (codes "*b2w")) ≡ at_once Syntax)
    × (reading_of (esc (codes "*b32768W")) ≡ at_once BadNumber)
unfolding reading_of read_on first_of after_escape after_introducer command_in field_at amount_of
raster_row = (refl, refl, refl, refl)
