-- Jobs whose notes are computed from the definitions alone.
use Rattle.std.proofs.Common.{◌≡◌, ℕ, true, false, List, [], ◌∷◌, ◌++◌, Some, refl}
use Rattle.std.specs.Prelude.{codes}
use Rattle.pcl_lexer.specs.Escapes.Field.{field_at, amount_of}
use Rattle.pcl_lexer.specs.Reader.{first_of, after_escape, after_introducer, after_parenthesis, command_in, without_group}
use Rattle.pcl_lexer.specs.Reading.{read_on, reading_of}
use Rattle.device_profile.specs.Printer.{first_panel, row_at, geometry_at, has_size, has_orientation}
use Rattle.device_profile.specs.Samples.{printer_a}
use Rattle.page_env.specs.Places.{is_between, page_reads, page_and_line_reads}
use Rattle.page_env.specs.Mark.{is_inside}
use Rattle.notes.specs.declared.note.Note.{Note}
use Rattle.notes.specs.declared.note.Note.TheVariants.{OpenStart, OpenEnd, NoPage, SameOrientation, FractionOfUnit, LaterLanguage, LongRun}
use Rattle.notes.specs.Note.{Told, firsts}
use Rattle.notes.specs.Notes.{notes_of}
use Rattle.notes.specs.ItemNotes.{is_other_language}
use Rattle.pcl_items.specs.Items.{Text, Reset, at as placed}

abbrev escape : ℕ
escape = 27

abbrev at : ℕ → Note → Told
at place note = record { place = place; note = note }

abbrev reset : List ℕ
reset = escape ∷ codes "E"

abbrev notes : List ℕ → List Told
notes job = firsts [] (notes_of printer_a (first_panel printer_a) (reading_of job))

no_bytes : notes [] ≡ at 0 NoPage ∷ []
unfolding first_of after_escape after_introducer after_parenthesis command_in without_group field_at amount_of read_on reading_of row_at
    geometry_at has_size has_orientation is_between is_inside page_reads page_and_line_reads
no_bytes = refl

-- a page between resets
closed : notes (reset ++ 12 ∷ [] ++ reset) ≡ []
unfolding first_of after_escape after_introducer after_parenthesis command_in without_group field_at amount_of read_on reading_of row_at
    geometry_at has_size has_orientation is_between is_inside page_reads page_and_line_reads
closed = refl

-- a page without them
unclosed : notes (12 ∷ []) ≡ at 0 OpenStart ∷ at 1 OpenEnd ∷ []
unfolding first_of after_escape after_introducer after_parenthesis command_in without_group field_at amount_of read_on reading_of row_at
    geometry_at has_size has_orientation is_between is_inside page_reads page_and_line_reads
unclosed = refl

-- a command behind the last reset, and no page
open_end : notes (reset ++ escape ∷ codes "&l2A" ++ []) ≡ at 7 OpenEnd ∷ at 7 NoPage ∷ []
unfolding first_of after_escape after_introducer after_parenthesis command_in without_group field_at amount_of read_on reading_of row_at
    geometry_at has_size has_orientation is_between is_inside page_reads page_and_line_reads
open_end = refl

-- a unit of measure, and a move by half a unit
half_a_unit : notes (reset ++ escape ∷ codes "&u600D" ++ escape ∷ codes "*p100.5X" ++ 12 ∷ [] ++ reset)
    ≡ at 2 LaterLanguage ∷ at 9 FractionOfUnit ∷ []
unfolding first_of after_escape after_introducer after_parenthesis command_in without_group field_at amount_of read_on reading_of row_at
    geometry_at has_size has_orientation is_between is_inside page_reads page_and_line_reads
half_a_unit = refl

-- an HMI, and the orientation in force once more
orientation_again : notes (reset ++ escape ∷ codes "&l0O" ++ escape ∷ codes "&k12H" ++ escape ∷ codes "&l0O" ++ 12 ∷ [] ++ reset)
    ≡ at 13 SameOrientation ∷ []
unfolding first_of after_escape after_introducer after_parenthesis command_in without_group field_at amount_of read_on reading_of row_at
    geometry_at has_size has_orientation is_between is_inside page_reads page_and_line_reads
orientation_again = refl

-- a macro of two form feeds, where macros may carry out one item; what follows is not looked at
long_run : firsts []
    (notes_of (record printer_a { most_items = Some 1 }) (first_panel printer_a)
    (reading_of (reset ++ escape ∷ codes "&f0X" ++ 12 ∷ 12 ∷ [] ++ escape ∷ codes "&f1X" ++ escape ∷ codes "&f2X")))
    ≡ at 14 LongRun ∷ []
unfolding first_of after_escape after_introducer after_parenthesis command_in without_group field_at amount_of read_on reading_of row_at
    geometry_at has_size has_orientation is_between is_inside page_reads page_and_line_reads
long_run = refl

-- `%!P` behind a reset, the nearest first, and `S`
postscript : is_other_language (placed 4 (Text 80) ∷ placed 3 (Text 33) ∷ placed 2 (Text 37) ∷ placed 0 Reset ∷ [])
    (placed 5 (Text 83)) ≡ true
postscript = refl

-- the same behind a letter
postscript_behind_text : is_other_language (placed 3 (Text 80) ∷ placed 2 (Text 33) ∷ placed 1 (Text 37) ∷ placed 0 (Text 65) ∷ [])
    (placed 4 (Text 83)) ≡ false
postscript_behind_text = refl
