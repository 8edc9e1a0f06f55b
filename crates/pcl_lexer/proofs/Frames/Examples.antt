-- What stands first in a frame, computed.
use Rattle.std.specs.Prelude.{◌≡◌, pos, negsuc, codes, refl, true, false, Some, ◌∷◌, []}
use Rattle.pcl_items.specs.declared.fault.Name.TheVariants as names
use Rattle.pcl_items.specs.declared.fault.LexCause.TheVariants.{Syntax, NotInProfile, BadNumber}
use Rattle.pcl_items.specs.declared.frame.Handover.TheVariants.{Current}
use Rattle.pcl_items.specs.declared.frame.Motion.TheVariants.{Up, Down, Absolute}
use Rattle.pcl_items.specs.declared.frame.Setting.TheVariants as settings
use Rattle.pcl_items.specs.declared.frame.Mnemonic.TheVariants.{Initialize, Sets, Moves}
use Rattle.pcl_lexer.specs.declared.frame.Gap.TheVariants.{Straight, Spaced, Comma}
use Rattle.pcl_lexer.specs.Lexing.Contexts.{Pcl, Frame, Letters, Numbered, Single, Odd, Even}
use Rattle.pcl_lexer.specs.Lexing.Firsts.{Open, Passes, Begins, Faulty}
use Rattle.pcl_items.specs.Items.{Reset, LeaveFrame, Set, Move}
use Rattle.pcl_lexer.specs.Frames.Kinds.{kind_of}
use Rattle.pcl_lexer.specs.Escapes.Field.{field_at, amount_of}
use Rattle.pcl_lexer.specs.Frames.Number.{numeral_at, coordinate_of}
use Rattle.pcl_lexer.specs.Frames.Reader.{language_in, at_frame, after_letters, after_numbers}

-- between commands: letters of either case, others, one letter, a byte that begins none, escape sequences
commands : (at_frame (codes "pA1") ≡ Passes 2 (Letters (Moves Absolute) 2))
    × (at_frame (codes "XY") ≡ Faulty (NotInProfile (names.Pair 88 89))) × (at_frame (codes "P U") ≡ Faulty Syntax)
    × (at_frame (codes "P") ≡ Open) × (at_frame (codes "5") ≡ Faulty Syntax) × (at_frame (codes "; ") ≡ Passes 1 Frame)
unfolding at_frame kind_of
commands = (refl, refl, refl, refl, refl, refl)

sequences : (at_frame (27 ∷ codes "E") ≡ Begins Reset 2 Pcl) × (at_frame (27 ∷ codes "%1A") ≡ Begins (LeaveFrame Current) 4 Pcl)
    × (at_frame (27 ∷ codes "%1B") ≡ Faulty (NotInProfile (names.Pair 37 66)))
    × (at_frame (27 ∷ codes "&l2A") ≡ Faulty (NotInProfile (names.Byte 38))) × (at_frame (27 ∷ codes "%65536A") ≡ Faulty BadNumber)
    × (at_frame (27 ∷ codes "%0a") ≡ Faulty Syntax)
unfolding at_frame kind_of language_in field_at amount_of
sequences = (refl, refl, refl, refl, refl, refl)

-- behind letters: a number, a sign too many, a comma, and the end
letters : (after_letters false (Moves Down) 2 (codes "-12,") ≡ Passes 3 (Numbered (Odd Down (negsuc 11)) Straight 5))
    × (after_letters false (Sets settings.Width) 2 (codes ".35;") ≡ Passes 3 (Numbered (Single settings.Width 3500) Straight 5))
    × (after_letters true Initialize 2 (codes "+") ≡ Faulty BadNumber)
    × (after_letters false (Moves Absolute) 2 (codes ",1") ≡ Faulty Syntax)
    × (after_letters true (Sets settings.Width) 2 [] ≡ Begins (Set settings.Width 3500) 0 Frame)
    × (after_letters false (Moves Up) 2 [] ≡ Open)
unfolding after_letters kind_of numeral_at coordinate_of field_at amount_of
letters = (refl, refl, refl, refl, refl, refl)

-- behind numbers: the second of a pair, an odd one, the end of a command with pairs, a point straight behind a number
numbers : (after_numbers false (Odd Absolute (pos 1)) Comma 5 (codes "2;")
    ≡ Begins (Move Absolute (Some (pos 1, pos 2))) 1 (Numbered (Even Absolute) Straight 0))
    × (after_numbers false (Odd Absolute (pos 1)) Straight 3 (codes ";") ≡ Faulty BadNumber)
    × (after_numbers false (Even Absolute) Spaced 1 (codes "PU") ≡ Passes 0 Frame)
    × (after_numbers false (Single settings.Pen 15000) Straight 5 (codes ".2;") ≡ Faulty Syntax)
    × (after_numbers false (Single settings.Pen 10000) Spaced 4 (codes "-") ≡ Faulty BadNumber)
    × (after_numbers false (Even Absolute) Comma 2 (codes ";") ≡ Faulty Syntax)
unfolding after_numbers kind_of numeral_at coordinate_of field_at amount_of
numbers = (refl, refl, refl, refl, refl, refl)
