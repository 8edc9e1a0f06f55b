-- The text of a survey, for people.
use Rattle.std.specs.Prelude.{ℕ, ◌==◌, List, [], ◌∷◌, ◌++◌, codes, decimal, flat_map, get_or, length, if◌then◌else◌}
use Rattle.line_words.specs.Figures.{named}
use Rattle.line_words.specs.Reason.{bare_name}
use Rattle.shown_bytes.specs.Shown.{hex_byte, shown_text}
use Rattle.verdict.specs.declared.reason.Reason.TheVariants.{Fault}
use Rattle.verdict.specs.Numbers.{reason_number}
use Rattle.survey.specs.declared.refusal.Refusal.{Refusal}
use Rattle.survey.specs.declared.refusal.Spelled.{Spelled}
use Rattle.survey.specs.declared.refusal.Spelled.TheVariants.{Control, Sequence, Grouped, Ungrouped, Unended}
use Rattle.survey.specs.declared.refusal.Spelled.TheVariants.{Instruction, FrameBytes, Line, End}
use Rattle.survey.specs.declared.table.Row.{Row}
use Rattle.survey.specs.NamedLines.{line_at}
use Rattle.survey.specs.Names.{called, spelled_name}
use Rattle.survey.specs.Tally.{Tally}

-- a line by its words, where it is one that is named
abbrev pub line_words : List ℕ → List ℕ
line_words line = if length line == 0 then codes "a line of PJL" else 64 ∷ line

-- commands as the manual has them, with # for the value field
abbrev pub spelled_words : Spelled → List ℕ
spelled_words (Control b) = 120 ∷ hex_byte b
spelled_words (Sequence b) = 69 ∷ 83 ∷ 67 ∷ 32 ∷ b ∷ []
spelled_words (Grouped introducer group letter) = codes "ESC " ++ introducer ∷ group ∷ 35 ∷ letter ∷ []
spelled_words (Ungrouped introducer letter) = codes "ESC " ++ introducer ∷ 35 ∷ letter ∷ []
spelled_words Unended = codes "ESC without an end"
spelled_words (Instruction first second) = first ∷ second ∷ []
spelled_words FrameBytes = codes "bytes in a frame"
spelled_words (Line number) = line_words (line_at number)
spelled_words End = codes "the end of the job"

-- how often, and in how many jobs
unfoldable pub times_words : Row → List ℕ
times_words row = decimal row.times ++ named (codes "x in ") row.jobs

-- of so many
unfoldable pub jobs_words : ℕ → List ℕ
jobs_words jobs = named (codes " of ") jobs ++ codes " jobs: "

unfoldable pub counts_words : Row → ℕ → List ℕ
counts_words row jobs = times_words row ++ jobs_words jobs

-- how it is spelled, and what the manual calls it
unfoldable pub what_words : Spelled → List ℕ
what_words spelled = spelled_words spelled ++ called (spelled_name spelled)

-- where it stands first
unfoldable pub first_words : ℕ → List ℕ → List ℕ
first_words place name = named (codes ", first at byte ") place ++ codes " of " ++ shown_text name

-- why it is refused: the number of the fault, and its name
unfoldable pub number_words : Refusal → List ℕ
number_words refusal = named (codes " (") (reason_number (Fault refusal.cause)) ++ codes " "

unfoldable pub fault_words : Refusal → List ℕ
fault_words refusal = bare_name (Fault refusal.cause) ++ codes ")\n"

unfoldable pub cause_words : Refusal → List ℕ
cause_words refusal = number_words refusal ++ fault_words refusal

abbrev pub name_at : List (List ℕ) → ℕ → List ℕ
name_at names number = get_or names number []

unfoldable pub row_front : Row → ℕ → List ℕ
row_front row jobs = counts_words row jobs ++ what_words row.first.spelled

unfoldable pub row_back : List (List ℕ) → Row → List ℕ
row_back names row = first_words row.first.place (name_at names row.first_job) ++ cause_words row.first

unfoldable pub row_line : List (List ℕ) → Row → List ℕ
row_line names row = row_front row (length names) ++ row_back names row

unfoldable pub surveyed_words : (jobs rows : ℕ) → List ℕ
surveyed_words jobs rows = named (codes "surveyed: jobs=") jobs ++ named (codes " refused=") rows

unfoldable pub others_words : ℕ → List ℕ
others_words others = named (codes " others=") others ++ codes "; this is no verdict, check gives one\n"

unfoldable pub last_line : (jobs rows others : ℕ) → List ℕ
last_line jobs rows others = surveyed_words jobs rows ++ others_words others

-- what is counted of the jobs of these names: a line for each row, and the last one
abbrev pub rows_text : List (List ℕ) → Tally → List ℕ
rows_text names tally =
    flat_map (row_line names) tally.rows ++ last_line (length names) (length tally.rows) tally.others
