-- Frames by hand, and what they spell. `^` in a comment stands for ESC.
use Rattle.std.specs.Prelude.{◌≡◌, ℕ, pos, negsuc, List, [], ◌∷◌, ◌++◌, replicate, codes, refl, Some, None}
use Rattle.pcl_items.specs.declared.pcl.command.Command.TheVariants.{RectangleWidth, RectangleHeight, FillRectangle}
use Rattle.pcl_items.specs.declared.number.Sign.TheVariants.{Absent}
use Rattle.pcl_items.specs.declared.frame.Handover.TheVariants.{Previous, Current}
use Rattle.pcl_items.specs.declared.frame.Motion.{Motion}
use Rattle.pcl_items.specs.declared.frame.Motion.TheVariants.{Up, Down, Absolute, Relative}
use Rattle.pcl_items.specs.declared.frame.Setting.TheVariants as settings
use Rattle.pcl_items.specs.declared.fault.Name.TheVariants as names
use Rattle.pcl_items.specs.declared.fault.LexCause.{LexCause}
use Rattle.pcl_items.specs.declared.fault.LexCause.TheVariants.{Syntax, Truncated, NotInProfile, BadNumber, EndInFrame}
use Rattle.pcl_items.specs.Escapes.Value.{Amount}
use Rattle.pcl_items.specs.Items.{Entry, Placed, Reset, Parameterized, EnterFrame, LeaveFrame, Initialize, Set, Move, at}
use Rattle.pcl_lexer.specs.Escapes.Field.{field_at, amount_of}
use Rattle.pcl_lexer.specs.Frames.Kinds.{kind_of}
use Rattle.pcl_lexer.specs.Frames.Number.{coordinate_of, numeral_at}
use Rattle.pcl_lexer.specs.Frames.Reader.{language_in, at_frame, after_letters, after_numbers}
use Rattle.pcl_lexer.specs.Reader.{command_in, without_group, after_introducer, after_escape, first_of}
use Rattle.pcl_lexer.specs.Reading.{Reading, Whole, Stopped, read_on, reading_of}

abbrev plain : ℕ → Amount
plain n = record { sign = Absent; ten_thousandths = n }

-- a job that enters a frame at once, and what it spells
abbrev framed : List ℕ → Reading
framed bytes = reading_of (27 ∷ (codes "%0B" ++ bytes))

abbrev esc : List ℕ → List ℕ
esc bytes = 27 ∷ bytes

abbrev entered : Placed
entered = at 0 (EnterFrame Previous)

-- a fault behind that
abbrev faulty : ℕ → LexCause → Reading
faulty place cause = Stopped (entered ∷ []) place cause

abbrev draw : Motion → ℕ → ℕ → Entry
draw motion x y = Move motion (Some (pos x, pos y))

-- `^%0B^%65536A`, `^%0B^%0a`, `^%0B^%2A`: the field, the byte behind it, and then the name
switches : (framed (esc (codes "%65536A")) ≡ faulty 4 BadNumber) × (framed (esc (codes "%0a")) ≡ faulty 4 Syntax)
    × (framed (esc (codes "%2A")) ≡ faulty 4 (NotInProfile (names.Pair 37 65)))
unfolding reading_of read_on first_of after_escape without_group language_in at_frame after_letters after_numbers numeral_at coordinate_of
    field_at amount_of kind_of
switches = (refl, refl, refl)

-- `^%-0B^%-0A`, `^%-1B`, `^%1B^%1A`: -0 is not negative
switches_in_pcl :
    (reading_of (esc (codes "%-0B") ++ esc (codes "%-0A")) ≡ Whole (at 0 (EnterFrame Previous) ∷ at 5 (LeaveFrame Previous) ∷ []) 10)
    × (reading_of (esc (codes "%-1B")) ≡ Stopped [] 0 (NotInProfile (names.Pair 37 66)))
    × (reading_of (esc (codes "%1B") ++ esc (codes "%1A")) ≡ Whole (at 0 (EnterFrame Current) ∷ at 4 (LeaveFrame Current) ∷ []) 8)
unfolding reading_of read_on first_of after_escape without_group language_in at_frame after_letters after_numbers numeral_at coordinate_of
    field_at amount_of kind_of
switches_in_pcl = (refl, refl, refl)

-- `^%0B^%0B`: a frame can only be left
no_second_entry : framed (esc (codes "%0B")) ≡ faulty 4 (NotInProfile (names.Pair 37 66))
unfolding reading_of read_on first_of after_escape without_group language_in at_frame after_letters after_numbers numeral_at coordinate_of
    field_at amount_of kind_of
no_second_entry = refl

-- `^%0B^&l2A`, and ESC before the bytes 0, 32 and 127: named by that byte alone; `^%0B^E`
other_sequences : (framed (esc (codes "&l2A")) ≡ faulty 4 (NotInProfile (names.Byte 38)))
    × (framed (esc (0 ∷ [])) ≡ faulty 4 (NotInProfile (names.Byte 0))) × (framed (esc (32 ∷ [])) ≡ faulty 4 (NotInProfile (names.Byte 32)))
    × (framed (esc (127 ∷ [])) ≡ faulty 4 (NotInProfile (names.Byte 127)))
    × (framed (esc (codes "E")) ≡ Whole (entered ∷ at 4 Reset ∷ []) 6)
unfolding reading_of read_on first_of after_escape without_group language_in at_frame after_letters after_numbers numeral_at coordinate_of
    field_at amount_of kind_of
other_sequences = (refl, refl, refl, refl, refl)

-- `^%0B5`, `^%0B,`: a byte that begins no command
no_command : (framed (codes "5") ≡ faulty 4 Syntax) × (framed (codes ",") ≡ faulty 4 Syntax)
unfolding reading_of read_on first_of after_escape without_group language_in at_frame after_letters after_numbers numeral_at coordinate_of
    field_at amount_of kind_of
no_command = (refl, refl)

-- `^%0BP1;`, `^%0BP U;`, `^%0BP^%0A`: a letter that no letter follows; `^%0BP`
one_letter : (framed (codes "P1;") ≡ faulty 4 Syntax) × (framed (codes "P U;") ≡ faulty 4 Syntax)
    × (framed (codes "P" ++ esc (codes "%0A")) ≡ faulty 4 Syntax) × (framed (codes "P") ≡ faulty 4 Truncated)
unfolding reading_of read_on first_of after_escape without_group language_in at_frame after_letters after_numbers numeral_at coordinate_of
    field_at amount_of kind_of
one_letter = (refl, refl, refl, refl)

-- `^%0BPA1:`, `^%0BPA1,;`: a bad byte or a comma comes first; `^%0BPA1;`, `^%0BPA1X`, `^%0BPA1^%0A`
odd_coordinates :
    (framed (codes "PA1:") ≡ faulty 4 Syntax) × (framed (codes "PA1,;") ≡ faulty 4 Syntax) × (framed (codes "PA1;") ≡ faulty 4 BadNumber)
    × (framed (codes "PA1X") ≡ faulty 4 BadNumber) × (framed (codes "PA1" ++ esc (codes "%0A")) ≡ faulty 4 BadNumber)
unfolding reading_of read_on first_of after_escape without_group language_in at_frame after_letters after_numbers numeral_at coordinate_of
    field_at amount_of kind_of
odd_coordinates = (refl, refl, refl, refl, refl)

-- `^%0BSP1,-;`, `^%0BSP1 .;`, `^%0BSP1+`, `^%0BIN+`, `^%0BIN.`, `^%0BIN 5`: decided by the first character
numbers_too_many : (framed (codes "SP1,-;") ≡ faulty 4 BadNumber) × (framed (codes "SP1 .;") ≡ faulty 4 BadNumber)
    × (framed (codes "SP1+") ≡ faulty 4 BadNumber) × (framed (codes "IN+") ≡ faulty 4 BadNumber)
    × (framed (codes "IN.") ≡ faulty 4 BadNumber) × (framed (codes "IN 5") ≡ faulty 4 BadNumber)
unfolding reading_of read_on first_of after_escape without_group language_in at_frame after_letters after_numbers numeral_at coordinate_of
    field_at amount_of kind_of
numbers_too_many = (refl, refl, refl, refl, refl, refl)

-- `^%0BSP1.5.2;`, `^%0BPA1.0.0,2;`, `^%0BPA1,2.0.5;`: a point straight behind a number; `^%0BPA1,2.5.`: its limits come first
second_points : (framed (codes "SP1.5.2;") ≡ faulty 4 Syntax) × (framed (codes "PA1.0.0,2;") ≡ faulty 4 Syntax)
    × (framed (codes "PA1,2.0.5;") ≡ Stopped (entered ∷ at 4 (draw Absolute 1 2) ∷ []) 11 Syntax)
    × (framed (codes "PA1,2.5.") ≡ faulty 4 BadNumber)
unfolding reading_of read_on first_of after_escape without_group language_in at_frame after_letters after_numbers numeral_at coordinate_of
    field_at amount_of kind_of
second_points = (refl, refl, refl, refl)

-- `^%0BIN,`, `^%0BPA,1;`: a comma with no number before it
commas_first : (framed (codes "IN,") ≡ faulty 4 Syntax) × (framed (codes "PA,1;") ≡ faulty 4 Syntax)
unfolding reading_of read_on first_of after_escape without_group language_in at_frame after_letters after_numbers numeral_at coordinate_of
    field_at amount_of kind_of
commas_first = (refl, refl)

-- `^%0BPA1,2, ;`, `^%0BPA1,2 *`, `^%0BPA1,2,,`, `^%0BPA1,2, `, `^%0BPA1,2 `: at the byte that begins no number, or at the end; `^%0BSP1,;`
behind_a_pair : (framed (codes "PA1,2, ;") ≡ Stopped (entered ∷ at 4 (draw Absolute 1 2) ∷ []) 11 Syntax)
    × (framed (codes "PA1,2 *") ≡ Stopped (entered ∷ at 4 (draw Absolute 1 2) ∷ []) 10 Syntax)
    × (framed (codes "PA1,2,,") ≡ Stopped (entered ∷ at 4 (draw Absolute 1 2) ∷ []) 10 Syntax)
    × (framed (codes "PA1,2, ") ≡ Stopped (entered ∷ at 4 (draw Absolute 1 2) ∷ []) 11 Truncated)
    × (framed (codes "PA1,2 ") ≡ Stopped (entered ∷ at 4 (draw Absolute 1 2) ∷ []) 10 EndInFrame)
    × (framed (codes "SP1,;") ≡ faulty 4 Syntax)
unfolding reading_of read_on first_of after_escape without_group language_in at_frame after_letters after_numbers numeral_at coordinate_of
    field_at amount_of kind_of
behind_a_pair = (refl, refl, refl, refl, refl, refl)

-- `^%0BPA1.00000000,.0,2.,-0^%0A`: no limit on decimals but the 16 characters; `^%0BPA0.00001,0;`, `^%0BSP.00001;`
decimals : (framed (codes "PA1.00000000,.0,2.,-0" ++ esc (codes "%0A"))
    ≡ Whole (entered ∷ at 4 (draw Absolute 1 0) ∷ at 20 (draw Absolute 2 0) ∷ at 25 (LeaveFrame Previous) ∷ []) 29)
    × (framed (codes "PA0.00001,0;") ≡ faulty 4 BadNumber) × (framed (codes "SP.00001;") ≡ faulty 4 BadNumber)
unfolding reading_of read_on first_of after_escape without_group language_in at_frame after_letters after_numbers numeral_at coordinate_of
    field_at amount_of kind_of
decimals = (refl, refl, refl)

-- `^%0BSP-0;SP0.5;^%0A`, `^%0BSP0.5;^%0A`, `^%0BPW0;^%0A`: any value that is not negative; `^%0BSP-1;`
settings_of_a_frame : (framed (codes "SP-0;SP0.5;" ++ esc (codes "%0A"))
    ≡ Whole (entered ∷ at 4 (Set settings.Pen 0) ∷ at 9 (Set settings.Pen 5000) ∷ at 15 (LeaveFrame Previous) ∷ []) 19)
    × (framed (codes "PW0;" ++ esc (codes "%0A")) ≡ Whole (entered ∷ at 4 (Set settings.Width 0) ∷ at 8 (LeaveFrame Previous) ∷ []) 12)
    × (framed (codes "SP-1;") ≡ faulty 4 BadNumber)
unfolding reading_of read_on first_of after_escape without_group language_in at_frame after_letters after_numbers numeral_at coordinate_of
    field_at amount_of kind_of
settings_of_a_frame = (refl, refl, refl)

-- `^%0BPA1,2E3`: `E` behind a number is the next letter
letter_behind_a_number : framed (codes "PA1,2E3") ≡ Stopped (entered ∷ at 4 (draw Absolute 1 2) ∷ []) 9 Syntax
unfolding reading_of read_on first_of after_escape without_group language_in at_frame after_letters after_numbers numeral_at coordinate_of
    field_at amount_of kind_of
letter_behind_a_number = refl

-- `^%0BPD`, `^%0BPU`, `^%0BIN;`: a command that the end of the bytes ends is an item
ended_by_the_end : (framed (codes "PD") ≡ Stopped (entered ∷ at 4 (Move Down None) ∷ []) 6 EndInFrame)
    × (framed (codes "PU") ≡ Stopped (entered ∷ at 4 (Move Up None) ∷ []) 6 EndInFrame)
    × (framed (codes "IN;") ≡ Stopped (entered ∷ at 4 Initialize ∷ []) 7 EndInFrame)
unfolding reading_of read_on first_of after_escape without_group language_in at_frame after_letters after_numbers numeral_at coordinate_of
    field_at amount_of kind_of
ended_by_the_end = (refl, refl, refl)

-- `^E^%0BPD^%0A`
pen_down : reading_of (esc (codes "E") ++ esc (codes "%0BPD") ++ esc (codes "%0A"))
    ≡ Whole (at 0 Reset ∷ at 2 (EnterFrame Previous) ∷ at 6 (Move Down None) ∷ at 8 (LeaveFrame Previous) ∷ []) 12
unfolding reading_of read_on first_of after_escape without_group language_in at_frame after_letters after_numbers numeral_at coordinate_of
    field_at amount_of kind_of
pen_down = refl

-- `^E^%0BSP1PU0,0PD-1,0^%0A`
outside : reading_of (esc (codes "E") ++ esc (codes "%0BSP1PU0,0PD-1,0") ++ esc (codes "%0A"))
    ≡ Whole
    (at 0 Reset ∷ at 2 (EnterFrame Previous) ∷ at 6 (Set settings.Pen 10000) ∷ at 9 (draw Up 0 0)
    ∷ at 14 (Move Down (Some (negsuc 0, pos 0))) ∷ at 20 (LeaveFrame Previous) ∷ [])
    24
unfolding reading_of read_on first_of after_escape without_group language_in at_frame after_letters after_numbers numeral_at coordinate_of
    field_at amount_of kind_of
outside = refl

-- `^%0BPA1;`, `^%0BPA1`
odd_or_cut : (framed (codes "PA1;") ≡ faulty 4 BadNumber) × (framed (codes "PA1") ≡ faulty 4 Truncated)
unfolding reading_of read_on first_of after_escape without_group language_in at_frame after_letters after_numbers numeral_at coordinate_of
    field_at amount_of kind_of
odd_or_cut = (refl, refl)

-- `^%0BPA1,2,3;`, `^%0BPA1,2,3`: at the place of that number
third_coordinate : (framed (codes "PA1,2,3;") ≡ Stopped (entered ∷ at 4 (draw Absolute 1 2) ∷ []) 10 BadNumber)
    × (framed (codes "PA1,2,3") ≡ Stopped (entered ∷ at 4 (draw Absolute 1 2) ∷ []) 10 Truncated)
unfolding reading_of read_on first_of after_escape without_group language_in at_frame after_letters after_numbers numeral_at coordinate_of
    field_at amount_of kind_of
third_coordinate = (refl, refl)

-- `^%0BPU1,8388608;`, `^%0BPU1,8388608`, `^%0BPU1,8388607`
large_coordinate : (framed (codes "PU1,8388608;") ≡ faulty 4 BadNumber) × (framed (codes "PU1,8388608") ≡ faulty 4 Truncated)
    × (framed (codes "PU1,8388607") ≡ Stopped (entered ∷ at 4 (draw Up 1 8388607) ∷ []) 15 EndInFrame)
unfolding reading_of read_on first_of after_escape without_group language_in at_frame after_letters after_numbers numeral_at coordinate_of
    field_at amount_of kind_of
large_coordinate = (refl, refl, refl)

-- `^%0BPA1,2,;`, `^%0BPA1,2,`
comma_behind_a_pair : (framed (codes "PA1,2,;") ≡ Stopped (entered ∷ at 4 (draw Absolute 1 2) ∷ []) 10 Syntax)
    × (framed (codes "PA1,2,") ≡ Stopped (entered ∷ at 4 (draw Absolute 1 2) ∷ []) 10 Truncated)
unfolding reading_of read_on first_of after_escape without_group language_in at_frame after_letters after_numbers numeral_at coordinate_of
    field_at amount_of kind_of
comma_behind_a_pair = (refl, refl)

-- `^%0BPA-`, `^%0BPA.`, `^%0BSP.`, `^%0BPA1,2,-`: a sign or a point that the bytes end in; `^%0BPA-;`
cut_numbers :
    (framed (codes "PA-") ≡ faulty 4 Truncated) × (framed (codes "PA.") ≡ faulty 4 Truncated) × (framed (codes "SP.") ≡ faulty 4 Truncated)
    × (framed (codes "PA1,2,-") ≡ Stopped (entered ∷ at 4 (draw Absolute 1 2) ∷ []) 10 Truncated)
    × (framed (codes "PA-;") ≡ faulty 4 Syntax)
unfolding reading_of read_on first_of after_escape without_group language_in at_frame after_letters after_numbers numeral_at coordinate_of
    field_at amount_of kind_of
cut_numbers = (refl, refl, refl, refl, refl)

-- 17 characters, and 16
long_numbers : (framed (codes "PA00000000000000001") ≡ faulty 4 BadNumber)
    × (framed (codes "PA0000000000000001,0") ≡ Stopped (entered ∷ at 4 (draw Absolute 1 0) ∷ []) 24 EndInFrame)
unfolding reading_of read_on first_of after_escape without_group language_in at_frame after_letters after_numbers numeral_at coordinate_of
    field_at amount_of kind_of
long_numbers = (refl, refl)

-- `^%0Bxy;`, `^%0BPP`: letters of no command
unknown_letters :
    (framed (codes "xy;") ≡ faulty 4 (NotInProfile (names.Pair 88 89))) × (framed (codes "PP") ≡ faulty 4 (NotInProfile (names.Pair 80 80)))
unfolding reading_of read_on first_of after_escape without_group language_in at_frame after_letters after_numbers numeral_at coordinate_of
    field_at amount_of kind_of
unknown_letters = (refl, refl)

-- `^%0B` and `pa  1\r\n,\t2 ^%0A`: white space in a command
white_space : framed (codes "pa  1" ++ (13 ∷ 10 ∷ 44 ∷ 9 ∷ []) ++ codes "2 " ++ esc (codes "%0A"))
    ≡ Whole (entered ∷ at 4 (draw Absolute 1 2) ∷ at 15 (LeaveFrame Previous) ∷ []) 19
unfolding reading_of read_on first_of after_escape without_group language_in at_frame after_letters after_numbers numeral_at coordinate_of
    field_at amount_of kind_of
white_space = refl

-- `^%0Bin;sp1;pu0,0pd100,100,0,200^%0A`, `^%0BPR1-2+3-4`: each pair is an item of its own
pairs : (framed (codes "in;sp1;pu0,0pd100,100,0,200" ++ esc (codes "%0A"))
    ≡ Whole
    (entered ∷ at 4 Initialize ∷ at 7 (Set settings.Pen 10000) ∷ at 11 (draw Up 0 0) ∷ at 16 (draw Down 100 100) ∷ at 26 (draw Down 0 200)
    ∷ at 31 (LeaveFrame Previous) ∷ [])
    35)
    × (framed (codes "PR1-2+3-4")
    ≡ Stopped (entered ∷ at 4 (Move Relative (Some (pos 1, negsuc 1))) ∷ at 9 (Move Relative (Some (pos 3, negsuc 3))) ∷ []) 13 EndInFrame)
unfolding reading_of read_on first_of after_escape without_group language_in at_frame after_letters after_numbers numeral_at coordinate_of
    field_at amount_of kind_of
pairs = (refl, refl)

-- `^%0Bsp pw;SP+1PW0.350PA-0,+5^%0A`: defaults, and numbers without sign and zeros
defaults : framed (codes "sp pw;SP+1PW0.350PA-0,+5" ++ esc (codes "%0A"))
    ≡ Whole
    (entered ∷ at 4 (Set settings.Pen 0) ∷ at 7 (Set settings.Width 3500) ∷ at 10 (Set settings.Pen 10000) ∷ at 14 (Set settings.Width 3500)
    ∷ at 21 (draw Absolute 0 5) ∷ at 28 (LeaveFrame Previous) ∷ [])
    32
unfolding reading_of read_on first_of after_escape without_group language_in at_frame after_letters after_numbers numeral_at coordinate_of
    field_at amount_of kind_of
defaults = refl

-- `^%0BPU1016,1016^%1A^*c30a30b0P`: behind a frame
behind_a_frame : framed (codes "PU1016,1016" ++ esc (codes "%1A") ++ esc (codes "*c30a30b0P"))
    ≡ Whole
    (entered ∷ at 4 (draw Up 1016 1016) ∷ at 15 (LeaveFrame Current) ∷ at 19 (Parameterized RectangleWidth (plain 300000))
    ∷ at 25 (Parameterized RectangleHeight (plain 300000)) ∷ at 28 (Parameterized FillRectangle (plain 0)) ∷ [])
    30
unfolding reading_of read_on first_of after_escape without_group language_in at_frame after_letters after_numbers numeral_at coordinate_of
    field_at amount_of kind_of after_introducer command_in
behind_a_frame = refl

-- `^%0BPA1,2:`: a pair is an item before the byte behind it is judged
judged_behind_a_pair : framed (codes "PA1,2:") ≡ Stopped (entered ∷ at 4 (draw Absolute 1 2) ∷ []) 9 Syntax
unfolding reading_of read_on first_of after_escape without_group language_in at_frame after_letters after_numbers numeral_at coordinate_of
    field_at amount_of kind_of
judged_behind_a_pair = refl

-- `^%0Bpa<40: >1\r\n,<40:\t>2 ^%0A`: as much white space as may be
much_white_space : framed (codes "pa" ++ replicate 40 32 ++ codes "1" ++ (13 ∷ 10 ∷ 44 ∷ replicate 40 9) ++ codes "2 " ++ esc (codes "%0A"))
    ≡ Whole (entered ∷ at 4 (draw Absolute 1 2) ∷ at 92 (LeaveFrame Previous) ∷ []) 96
unfolding reading_of read_on first_of after_escape without_group language_in at_frame after_letters after_numbers numeral_at coordinate_of
    field_at amount_of kind_of
much_white_space = refl

-- `^E^%0BPR8388607,0,1,0^%0A`: a second pair stands at its first number
second_pair : reading_of (esc (codes "E") ++ esc (codes "%0BPR8388607,0,1,0") ++ esc (codes "%0A"))
    ≡ Whole
    (at 0 Reset ∷ at 2 (EnterFrame Previous) ∷ at 6 (draw Relative 8388607 0) ∷ at 18 (draw Relative 1 0)
    ∷ at 21 (LeaveFrame Previous) ∷ [])
    25
unfolding reading_of read_on first_of after_escape without_group language_in at_frame after_letters after_numbers numeral_at coordinate_of
    field_at amount_of kind_of
second_pair = refl
