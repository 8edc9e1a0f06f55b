-- Texts of jobs, computed from the definitions alone.
use Rattle.std.proofs.Common.{◌≡◌, ℕ, List, [], ◌∷◌, ◌++◌, refl}
use Rattle.std.specs.Prelude.{codes}
use Rattle.std.specs.Fmt.{digits}
use Rattle.pcl_items.specs.declared.pcl.command.Group.TheVariants.{Layout}
use Rattle.pcl_items.specs.declared.fault.Name.TheVariants as names
use Rattle.pcl_items.specs.declared.fault.LexCause.TheVariants.{NotInProfile}
use Rattle.pcl_items.specs.PjlLines.Exit.{exit_text}
use Rattle.pcl_lexer.specs.Escapes.Field.{field_at, amount_of}
use Rattle.pcl_items.specs.PjlLines.First.{at_pjl}
use Rattle.pcl_items.specs.PjlLines.Reader.{trimmed, is_word, past_part, parts_behind, is_language, in_words, pjl_command_of}
use Rattle.pcl_lexer.specs.Reader.{first_of, after_escape, after_introducer, after_parenthesis, command_in, without_group}
use Rattle.pcl_lexer.specs.Reading.{read_on, reading_of}
use Rattle.device_profile.specs.declared.panel.Panel.{Panel}
use Rattle.device_profile.specs.Printer.{first_panel, row_at, geometry_at, has_size, has_orientation}
use Rattle.device_profile.specs.Samples.{printer_a}
use Rattle.page_env.specs.declared.finding.Finding.TheVariants.{NotPrintable}
use Rattle.page_env.specs.Places.{is_between, page_reads, page_and_line_reads}
use Rattle.page_env.specs.Mark.{is_inside}
use Rattle.renderings.specs.declared.outcome.Outcome.TheVariants.{Done, Fail}
use Rattle.verdict.specs.declared.reason.Reason.TheVariants.{Fault, Finding as FindingOfRun}
use Rattle.renderings.specs.Texts.{plain_text, list_text, reading_outcome}
use Rattle.line_words.specs.MarkLines.{bounds_words}
use Rattle.renderings.specs.PageTexts.{pages_text, pages_outcome}

abbrev escape : ℕ
escape = 27

-- a reset, a letter page in portrait, and a rectangle, whose width is given
abbrev rectangle : List ℕ → List ℕ
rectangle width =
    escape ∷ codes "E" ++ escape ∷ codes "&l2a0O" ++ escape ∷ codes "*p2300x300Y" ++ escape ∷ codes "*c" ++ width ++ codes "a50b0P"
    ++ 12 ∷ []

abbrev panel : Panel
panel = first_panel printer_a

-- each command by itself, ended by its capital letter
one_command_a_sequence : plain_text (reading_of (escape ∷ codes "E" ++ escape ∷ codes "&l2a0O" ++ escape ∷ codes "*p00300X" ++ 12 ∷ []))
    ≡ escape ∷ codes "E" ++ escape ∷ codes "&l2A" ++ escape ∷ codes "&l0O" ++ escape ∷ codes "*p300X" ++ 12 ∷ []
unfolding first_of after_escape after_introducer after_parenthesis command_in without_group field_at amount_of read_on reading_of digits
one_command_a_sequence = refl

-- a sign is kept
plus_is_kept : plain_text (reading_of (escape ∷ codes "*p+0X")) ≡ escape ∷ codes "*p+0X"
unfolding first_of after_escape after_introducer after_parenthesis command_in without_group field_at amount_of read_on reading_of digits
plus_is_kept = refl

-- the items before a fault, and the fault in the list alone
abbrev page_length : List ℕ
page_length = escape ∷ codes "E" ++ escape ∷ codes "&l2a66P"

plain_to_the_fault : plain_text (reading_of page_length) ≡ escape ∷ codes "E" ++ escape ∷ codes "&l2A"
unfolding first_of after_escape after_introducer after_parenthesis command_in without_group field_at amount_of read_on reading_of digits
plain_to_the_fault = refl

list_with_the_fault : list_text (reading_of page_length) ≡ codes "0 \\x1bE\n2 \\x1b&l2A\n7 FAULT 3 NotInProfile(&lP)\n"
unfolding first_of after_escape after_introducer after_parenthesis command_in without_group field_at amount_of read_on reading_of digits
list_with_the_fault = refl

fails_at_the_fault : reading_outcome (reading_of page_length) ≡ Fail 7 0 (Fault (NotInProfile (names.Command Layout 80)))
unfolding first_of after_escape after_introducer after_parenthesis command_in without_group field_at amount_of read_on reading_of digits
fails_at_the_fault = refl

-- the usual wrapping, each line in its canonical spelling
plain_lines : plain_text (reading_of
    (exit_text ++ codes "@PJL JOB NAME=\"x\"" ++ 13 ∷ 10 ∷ codes "@PJL ENTER LANGUAGE = PCL" ++ 13 ∷ 10 ∷ escape ∷ 69 ∷ exit_text))
    ≡ exit_text ++ codes "@PJL JOB NAME=\"x\"\n@PJL ENTER LANGUAGE=PCL\n" ++ escape ∷ 69 ∷ exit_text
unfolding first_of after_escape read_on reading_of at_pjl pjl_command_of trimmed in_words is_word past_part parts_behind is_language
plain_lines = refl

-- a line and its newline are one item
listed_lines : list_text (reading_of (exit_text ++ codes "@PJL\n" ++ 13 ∷ 64 ∷ [])) ≡ codes "0 \\x1b%-12345X\n9 @PJL\\x0a\n14 \\x0d\n15 @\n"
unfolding first_of after_escape read_on reading_of at_pjl pjl_command_of trimmed digits
listed_lines = refl

-- a line that is none
listed_fault : list_text (reading_of (exit_text ++ codes "@PJL SET COPIES=2\n")) ≡ codes "0 \\x1b%-12345X\n9 FAULT 5 Pjl\n"
unfolding first_of after_escape read_on reading_of at_pjl pjl_command_of trimmed in_words is_word digits
listed_fault = refl

-- a mark, and the end of its page
pages_of_a_rectangle : pages_text printer_a panel (reading_of (rectangle (codes "125")))
    ≡ codes "rect 0 0 289560000000 54864000000 304800000000 60960000000\npage 1 size=2 orientation=0 sides=0 tray=1 copies=1\n"
unfolding first_of after_escape after_introducer after_parenthesis command_in without_group field_at amount_of read_on reading_of row_at
    geometry_at has_size has_orientation is_between is_inside page_reads page_and_line_reads bounds_words digits
pages_of_a_rectangle = refl

done_to_the_end : pages_outcome printer_a panel (reading_of (rectangle (codes "125"))) ≡ Done
unfolding first_of after_escape after_introducer after_parenthesis command_in without_group field_at amount_of read_on reading_of row_at
    geometry_at has_size has_orientation is_between is_inside page_reads page_and_line_reads bounds_words digits
done_to_the_end = refl

-- one unit past the printable edge: a finding, before which nothing is marked
nothing_before_the_finding : pages_text printer_a panel (reading_of (rectangle (codes "126"))) ≡ []
unfolding first_of after_escape after_introducer after_parenthesis command_in without_group field_at amount_of read_on reading_of row_at
    geometry_at has_size has_orientation is_between is_inside page_reads page_and_line_reads bounds_words digits
nothing_before_the_finding = refl

fails_at_the_finding : pages_outcome printer_a panel (reading_of (rectangle (codes "126"))) ≡ Fail 31 1 (FindingOfRun NotPrintable)
unfolding first_of after_escape after_introducer after_parenthesis command_in without_group field_at amount_of read_on reading_of row_at
    geometry_at has_size has_orientation is_between is_inside page_reads page_and_line_reads bounds_words digits
fails_at_the_finding = refl
