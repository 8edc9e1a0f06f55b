-- The object of a job, in a check of many jobs: a line of JSON.
use Rattle.std.specs.Prelude.{ℕ, ◌==◌, ◌-◌, List, [], ◌∷◌, ◌++◌, codes, get_or, length, if◌then◌else◌, Option, None}
use Rattle.std.specs.Prelude.{Some, Result, Ok, Err}
use Rattle.serde_json.specs.Data.{object, Members, no_members}
use Rattle.serde_json.specs.Written.{compact_text}
use Rattle.device_profile.specs.declared.font.FontRequest.{FontRequest}
use Rattle.line_words.specs.Figures.{escaped_byte}
use Rattle.line_words.specs.Reason.{bare_name, field_words}
use Rattle.page_env.specs.declared.finding.Finding.TheVariants.{NoGlyph}
use Rattle.judgement.specs.declared.failing_item.FailingItem.{FailingItem}
use Rattle.judgement.specs.declared.failing_item.MissingFont.{MissingFont}
use Rattle.judgement.specs.declared.failing_item.SheetSpot.{SheetSpot}
use Rattle.shown_bytes.specs.Lengths.{millimetres}
use Rattle.streams.specs.declared.error.Error.{Error}
use Rattle.streams.specs.declared.error.Error.TheVariants.{Memory, Read, Write, Turns, NoProfile, Items}
use Rattle.verdict.specs.Numbers.{reason_number}
use Rattle.verdict.specs.declared.reason.Reason.{Reason}
use Rattle.verdict.specs.declared.reason.Reason.TheVariants.{Finding}
use Rattle.verdict.specs.declared.verdict.Verdict.{Verdict}
use Rattle.verdict.specs.declared.verdict.Verdict.TheVariants.{Pass, Fail}
use Rattle.job_reports.specs.declared.kind.Kind.{Kind}
use Rattle.job_reports.specs.CommandWords.{command_words, font_commands}
use Rattle.job_reports.specs.Kinds.{kind_name, kind_of}
use Rattle.job_reports.specs.RefusedNames.{refused_name, value_key}
use Rattle.many_jobs.specs.JsonObject.{with_number, with_text}
use Rattle.many_jobs.specs.JsonTexts.{name_text, words_text}
use Rattle.job_reports.specs.Reports.{Reported, failing_item_of, cursor_of, font_of, number_told, page_of, verdict_told}

-- ---- what came of a job

abbrev pub with_pass : ℕ → ℕ → Members → Members
with_pass pages marks members =
    with_number (codes "marks") marks
    (with_number (codes "pages") pages (with_text (codes "verdict") (codes "PASS") members))

abbrev pub with_field : Reason → Members → Members
with_field reason members =
    if length (field_words reason) == 0 then members
    else with_text (codes "field") (words_text (field_words reason)) members

abbrev pub with_finding : Reason → Members → Members
with_finding reason members =
    with_field reason
    (with_text (codes "finding") (words_text (bare_name reason))
    (with_number (codes "code") (reason_number reason) members))

abbrev pub with_fail : ℕ → ℕ → Reason → Members → Members
with_fail place profile reason members =
    with_finding reason
    (with_number (codes "profile") profile
    (with_number (codes "at") place (with_text (codes "verdict") (codes "FAIL") members)))

-- who says no
abbrev pub with_kind : Kind → Members → Members
with_kind kind members = with_text (codes "kind") (kind_name kind) members

-- the page that is open where it fails
abbrev pub with_page : Option ℕ → Members → Members
with_page None members = members
with_page (Some page) members = with_number (codes "page") page members

-- where the cursor stood, in millimetres from the left and the upper edge of the sheet
abbrev pub with_cursor : Option SheetSpot → Members → Members
with_cursor None members = members
with_cursor (Some spot) members =
    with_text (codes "y_mm") (words_text (millimetres spot.y))
    (with_text (codes "x_mm") (words_text (millimetres spot.x)) members)

-- a font, as the commands that ask for it
abbrev pub with_font : List ℕ → Option FontRequest → Members → Members
with_font key None members = members
with_font key (Some font) members = with_text key (words_text (font_commands font)) members

-- the font that no face answers, and what selects the nearest
abbrev pub with_missing_font : Option MissingFont → Members → Members
with_missing_font None members = members
with_missing_font (Some font) members =
    with_font (codes "nearest") font.nearest (with_font (codes "asked") (Some font.asked) members)

-- the character that a face lacks
abbrev pub with_character : Reason → Members → Members
with_character (Finding (NoGlyph code)) members = with_text (codes "character") (words_text (escaped_byte code)) members
with_character _ members = members

abbrev pub with_command : Option FailingItem → Members → Members
with_command None members = members
with_command (Some failing_item) members = with_text (codes "command") (words_text (command_words failing_item)) members

-- what HP's manual calls what is not checked
abbrev pub with_command_name : List ℕ → Members → Members
with_command_name name members =
    if length name == 0 then members else with_text (codes "command_name") (words_text name) members

-- what the program tells of what is wrong, nothing where that is not asked for
abbrev pub with_explanation : List ℕ → Members → Members
with_explanation explanation members =
    if length explanation == 0 then members else with_text (codes "explanation") explanation members

abbrev pub error_name : Error → List ℕ
error_name Memory = codes "memory"
error_name Read = codes "read"
error_name Write = codes "write"
error_name Turns = codes "turns"
error_name NoProfile = codes "no profile"
error_name Items = codes "items"

-- what the system says of a read that failed
abbrev pub with_cause : Option (List ℕ) → Members → Members
with_cause None members = members
with_cause (Some words) members = with_text (codes "cause") (name_text words) members

abbrev pub with_error : Error → Option (List ℕ) → Members → Members
with_error error cause members =
    with_cause cause
    (with_text (codes "error") (error_name error) (with_text (codes "verdict") (codes "ERROR") members))

abbrev pub with_answer : List ℕ → Reported → Result Verdict Error → Members → Members
with_answer explanation report (Ok (Pass pages marks)) members = with_pass pages marks members
with_answer explanation report (Ok (Fail place profile reason)) members =
    with_explanation explanation
    (with_command_name (refused_name (value_key (failing_item_of report.answer)) reason)
    (with_command (failing_item_of report.answer)
    (with_character reason
    (with_missing_font (font_of report.answer)
    (with_cursor (cursor_of report.answer)
    (with_page (page_of report.answer)
    (with_kind (kind_of reason (failing_item_of report.answer)) (with_fail place profile reason members))))))))
with_answer explanation report (Err error) members = with_error error report.cause members

-- ---- the whole object

-- the printer that this is about
abbrev pub with_printer : List (List ℕ) → ℕ → Members → Members
with_printer names number members =
    if number == 0 then members else with_text (codes "printer") (name_text (get_or names (number - 1) [])) members

abbrev pub report_members : List ℕ → Reported → Members
report_members explanation report =
    let verdict = verdict_told report.answer in
    with_answer explanation report verdict
    (with_printer report.names (number_told report.is_each verdict)
    (with_text (codes "job") (name_text report.job) no_members))

-- the object on one line; its members stand in the order of their names
abbrev pub job_object : List ℕ → Reported → List ℕ
job_object explanation report = compact_text (object (report_members explanation report)) ++ 10 ∷ []
