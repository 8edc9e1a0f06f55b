-- The survey as lines of JSON.
use Rattle.std.specs.Prelude.{ℕ, List, [], ◌∷◌, ◌++◌, codes, flat_map, length}
use Rattle.serde_json.specs.Data.{object, Members, no_members}
use Rattle.serde_json.specs.Written.{compact_text}
use Rattle.line_words.specs.Reason.{bare_name}
use Rattle.many_jobs.specs.JobObjects.{with_command_name}
use Rattle.many_jobs.specs.JsonObject.{with_number, with_text}
use Rattle.many_jobs.specs.JsonTexts.{name_text, words_text}
use Rattle.verdict.specs.declared.reason.Reason.TheVariants.{Fault}
use Rattle.verdict.specs.Numbers.{reason_number}
use Rattle.survey.specs.declared.refusal.Refusal.{Refusal}
use Rattle.survey.specs.declared.table.Row.{Row}
use Rattle.survey.specs.Lines.{name_at, spelled_words}
use Rattle.survey.specs.Names.{spelled_name}
use Rattle.survey.specs.Tally.{Tally}

-- what is refused, and why
abbrev pub with_refusal : Refusal → Members → Members
with_refusal refusal members =
    with_text (codes "finding") (words_text (bare_name (Fault refusal.cause)))
    (with_number (codes "code") (reason_number (Fault refusal.cause))
    (with_command_name (spelled_name refusal.spelled)
    (with_text (codes "refused") (words_text (spelled_words refusal.spelled)) members)))

-- where it stands first
abbrev pub with_first : ℕ → List ℕ → Members → Members
with_first place name members =
    with_number (codes "at") place (with_text (codes "job") (name_text name) members)

abbrev pub row_members : List (List ℕ) → Row → Members
row_members names row =
    with_first row.first.place (name_at names row.first_job)
    (with_number (codes "jobs") row.jobs
    (with_number (codes "times") row.times (with_refusal row.first no_members)))

-- it has no verdict
abbrev pub last_members : (jobs rows others : ℕ) → Members
last_members jobs rows others =
    with_number (codes "others") others
    (with_number (codes "refused") rows
    (with_number (codes "jobs") jobs (with_text (codes "verdict") (codes "NONE") no_members)))

abbrev pub object_line : Members → List ℕ
object_line members = compact_text (object members) ++ 10 ∷ []

abbrev pub row_object : List (List ℕ) → Row → List ℕ
row_object names row = object_line (row_members names row)

abbrev pub last_object : (jobs rows others : ℕ) → List ℕ
last_object jobs rows others = object_line (last_members jobs rows others)

-- what is counted of the jobs of these names: an object for each row, and the last one
abbrev pub rows_objects : List (List ℕ) → Tally → List ℕ
rows_objects names tally =
    flat_map (row_object names) tally.rows ++ last_object (length names) (length tally.rows) tally.others
