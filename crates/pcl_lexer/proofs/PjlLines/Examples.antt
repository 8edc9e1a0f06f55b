-- Jobs with lines by hand, and what they spell. `^` in a comment stands for ESC, and the universal exit is `^%-12345X`.
use Rattle.std.specs.Prelude.{◌≡◌, ℕ, List, [], ◌∷◌, ◌++◌, codes, refl}
use Rattle.pcl_items.specs.declared.frame.Handover.TheVariants.{Previous}
use Rattle.pcl_items.specs.declared.fault.Name.TheVariants as names
use Rattle.pcl_items.specs.declared.fault.LexCause.{LexCause}
use Rattle.pcl_items.specs.declared.fault.LexCause.TheVariants as causes
use Rattle.pcl_items.specs.PjlLines.Exit.{exit_text}
use Rattle.pcl_items.specs.Items.{Text, CarriageReturn, Reset, EnterFrame, Initialize, ExitLanguage, PjlLine, at}
use Rattle.pcl_lexer.specs.Escapes.Field.{field_at, amount_of}
use Rattle.pcl_lexer.specs.Frames.Kinds.{kind_of}
use Rattle.pcl_items.specs.PjlLines.Text.{Bare, JobBegins, JobEnds, EnterPcl}
use Rattle.pcl_items.specs.PjlLines.Reader.{trimmed, is_word, past_part, parts_behind, is_language, in_words, pjl_command_of}
use Rattle.pcl_items.specs.PjlLines.First.{at_pjl}
use Rattle.pcl_lexer.specs.Frames.Reader.{at_frame, after_letters}
use Rattle.pcl_lexer.specs.Reader.{without_group, after_escape, first_of}
use Rattle.pcl_lexer.specs.Reading.{Reading, Whole, Stopped, read_on, reading_of}

-- the universal exit, and bytes behind it
abbrev exited : List ℕ → Reading
exited bytes = reading_of (exit_text ++ bytes)

abbrev faulty : ℕ → LexCause → Reading
faulty place cause = Stopped (at 0 ExitLanguage ∷ []) place cause

-- no line behind it: a whole job
no_line : exited [] ≡ Whole (at 0 ExitLanguage ∷ []) 9
unfolding reading_of read_on first_of after_escape
no_line = refl

-- `@PJL\n\r@`: a byte other than `@` is read in mode PCL, which then stands, so that a later `@` is text
lines_end : exited (codes "@PJL" ++ 10 ∷ 13 ∷ 64 ∷ [])
    ≡ Whole (at 0 ExitLanguage ∷ at 9 (PjlLine Bare) ∷ at 14 CarriageReturn ∷ at 15 (Text 64) ∷ []) 16
unfolding reading_of read_on first_of after_escape at_pjl pjl_command_of trimmed
lines_end = refl

-- `@PJL JOB NAME="x"\r\n@PJL ENTER LANGUAGE = PCL\r\n^E` and the exit: the usual wrapping
wrapped_job : exited (codes "@PJL JOB NAME=\"x\"" ++ 13 ∷ 10 ∷ codes "@PJL ENTER LANGUAGE = PCL" ++ 13 ∷ 10 ∷ 27 ∷ 69 ∷ exit_text)
    ≡ Whole
    (at 0 ExitLanguage ∷ at 9 (PjlLine (JobBegins (codes "NAME=\"x\""))) ∷ at 28 (PjlLine EnterPcl) ∷ at 55 Reset ∷ at 57 ExitLanguage ∷ [])
    66
unfolding reading_of read_on first_of after_escape at_pjl pjl_command_of trimmed in_words is_word past_part parts_behind is_language
wrapped_job = refl

-- `@PJL SET COPIES=2\n`, `@XYZ\n`: no lines; without their newline they are cut
wrong_lines : (exited (codes "@PJL SET COPIES=2" ++ 10 ∷ []) ≡ faulty 9 causes.Pjl)
    × (exited (codes "@XYZ" ++ 10 ∷ []) ≡ faulty 9 causes.Pjl) × (exited (codes "@PJL SET") ≡ faulty 9 causes.Truncated)
unfolding reading_of read_on first_of after_escape at_pjl pjl_command_of trimmed in_words is_word
wrong_lines = (refl, refl, refl)

-- `^%-12345` and `^%-12345.0X`: other bytes are no exit
no_exit : (reading_of (27 ∷ codes "%-12345") ≡ Stopped [] 0 causes.Truncated)
    × (reading_of (27 ∷ codes "%-12345.0X") ≡ Stopped [] 0 (causes.NotInProfile (names.Pair 37 88)))
unfolding reading_of read_on first_of after_escape without_group field_at amount_of
no_exit = (refl, refl)

-- `^%0BIN;` and the exit: it leaves a frame too, and lines may follow
out_of_a_frame : reading_of (27 ∷ codes "%0BIN;" ++ exit_text ++ codes "@PJL EOJ" ++ 10 ∷ [])
    ≡ Whole (at 0 (EnterFrame Previous) ∷ at 4 Initialize ∷ at 7 ExitLanguage ∷ at 16 (PjlLine (JobEnds [])) ∷ []) 25
unfolding reading_of read_on first_of after_escape without_group field_at amount_of at_frame kind_of after_letters at_pjl pjl_command_of
    trimmed in_words is_word
out_of_a_frame = refl
