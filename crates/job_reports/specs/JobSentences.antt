-- The sentence of a job, in a check of many jobs.
use Rattle.std.specs.Prelude.{◌≡◌, ℕ, ℤ, ◌==◌, ◌-◌, ◌^◌, ◌<◌, ◌≤◌, nat_le, nat_lt, ◌||◌, List, [], ◌∷◌, ◌++◌, codes}
use Rattle.std.specs.Prelude.{drop, take, length, get_or, if◌then◌else◌, Bool, true, false, Option, None, Some, Result}
use Rattle.std.specs.Prelude.{Ok, Err, IfOk, unsigned_abs, ⊤}
use Rattle.std.specs.List.{AllByRecursion}
use Rattle.device_profile.specs.declared.font.FontRequest.{FontRequest}
use Rattle.line_words.specs.Figures.{escaped_byte, named}
use Rattle.line_words.specs.Reason.{reason_words, short_reason}
use Rattle.page_env.specs.declared.finding.Finding.TheVariants.{BadValue, NoFont, NoGlyph}
use Rattle.judgement.specs.declared.failing_item.FailingItem.{FailingItem}
use Rattle.judgement.specs.declared.failing_item.FailingItem.TheVariants.{Text, Simple, WithData, Line}
use Rattle.judgement.specs.declared.failing_item.Judgement.{Judgement}
use Rattle.judgement.specs.declared.failing_item.MissingFont.{MissingFont}
use Rattle.judgement.specs.declared.failing_item.SheetSpot.{SheetSpot}
use Rattle.shown_bytes.specs.Lengths.{millimetres}
use Rattle.shown_bytes.specs.Shown.{shown, shown_text}
use Rattle.streams.specs.declared.error.Error.{Error}
use Rattle.streams.specs.declared.error.Error.TheVariants.{Memory, Read, Write, Turns, NoProfile, Items}
use Rattle.verdict.specs.declared.reason.Reason.{Reason}
use Rattle.verdict.specs.declared.reason.Reason.TheVariants.{Finding}
use Rattle.verdict.specs.declared.verdict.Verdict.{Verdict}
use Rattle.verdict.specs.declared.verdict.Verdict.TheVariants.{Pass, Fail}
use Rattle.job_reports.specs.CommandWords.{command_words, font_commands}
use Rattle.job_reports.specs.Kinds.{kind_by}
use Rattle.job_reports.specs.LeftOut.{left_out_of, value_words}
use Rattle.job_reports.specs.RefusedNames.{called, refused_name, value_key}
use Rattle.job_reports.specs.declared.kind.Kind.{Kind}
use Rattle.job_reports.specs.declared.kind.Kind.TheVariants as kinds
use Rattle.job_reports.specs.declared.left_out.LeftOut.{LeftOut}
use Rattle.job_reports.specs.Reports.{Reported, failing_item_of, cursor_of, font_of, number_told, page_of, verdict_told}
use Rattle.requests.specs.Status.{error_words}

-- ---- what is long, in part

-- the first byte of a character of UTF-8
abbrev pub begins_character : ℕ → Bool
begins_character byte = nat_lt byte 128 || nat_le 192 byte

-- from the first byte on that begins a character
abbrev pub from_character : List ℕ → List ℕ
from_character [] = []
from_character (byte ∷ text) = if begins_character byte then byte ∷ text else from_character text

-- the last so many bytes, but no part of a character, behind points that stand for those before them
abbrev pub last_of : ℕ → List ℕ → List ℕ
last_of most text =
    if nat_le (length text) most then text else codes "..." ++ from_character (drop (length text - most) text)

-- the first so many bytes, and points for those behind them
abbrev pub first_of : ℕ → List ℕ → List ℕ
first_of most text = if nat_le (length text) most then text else take most text ++ codes "..."

-- ---- a verdict

-- the printer of this number, or all
abbrev pub subject : List (List ℕ) → ℕ → List ℕ
subject names number = if number == 0 then codes "each printer" else get_or names (number - 1) []

-- the printer that this is about, where each has a sentence of its own
abbrev pub for_each : Bool → List (List ℕ) → List ℕ
for_each is_each names = if is_each then codes " for " ++ get_or names 0 [] else []

-- who says no
abbrev pub refusal : Kind → (who each : List ℕ) → List ℕ
refusal kinds.Unchecked who each = codes "pclcheck cannot judge this job" ++ each
refusal kinds.Wrong who each = codes "this job is wrong" ++ each
refusal kinds.Printer who each = who ++ codes " refuses this job"
refusal kinds.Panel who each = who ++ codes " refuses this job"
refusal kinds.Differs who each = who ++ codes " refuses this job"

-- who says what of a job, where this is left out of the value at which it fails
abbrev pub claim_by : (who each : List ℕ) → Option LeftOut → Result Verdict Error → List ℕ
claim_by who each left_out (Ok (Pass pages marks)) = who ++ codes " prints this job"
claim_by who each left_out (Ok (Fail place profile reason)) = refusal (kind_by left_out reason) who each
claim_by who each left_out (Err error) = []

abbrev pub job_claim : Reported → List ℕ
job_claim report =
    let answer = verdict_told report.answer in
    claim_by (subject report.names (number_told report.is_each answer)) (for_each report.is_each report.names)
    (left_out_of (failing_item_of report.answer)) answer

abbrev pub at_command : Option FailingItem → List ℕ
at_command None = []
at_command (Some failing_item) = codes ", " ++ command_words failing_item

-- where a job fails: the page, where the cursor stood, which font was asked for with the nearest face, the words on
-- the item, the key of the command with its value, and what is left out of the value there
pub record FailsAt : Type 0 where
  pub page : Option ℕ
  pub cursor : Option SheetSpot
  pub font : Option MissingFont
  pub words : List ℕ
  pub value : Option (List ℕ)
  pub left_out : Option LeftOut

abbrev pub fails_at : Option ℕ → Option FailingItem → FailsAt
fails_at page failing_item = record {
  page = page;
  cursor = None;
  font = None;
  words = at_command failing_item;
  value = value_key failing_item;
  left_out = left_out_of failing_item;
}

-- the same where it may be known where the cursor stood, and which font was asked for
abbrev pub fails_where : Option ℕ → Option SheetSpot → Option MissingFont → Option FailingItem → FailsAt
fails_where page cursor font failing_item = record (fails_at page failing_item) { cursor = cursor; font = font }

-- the words on the item, and what HP's manual calls what is not checked
abbrev pub what_fails : List ℕ → Option (List ℕ) → Reason → List ℕ
what_fails words value reason = words ++ called (refused_name value reason)

abbrev pub on_page : Option ℕ → List ℕ
on_page None = []
on_page (Some page) = named (codes " on page ") page

-- how far a place is from the left and the upper edge of the sheet
unfoldable pub left_phrase : ℤ → List ℕ
left_phrase x = codes ", " ++ millimetres x ++ codes " mm from the left"

unfoldable pub top_phrase : ℤ → List ℕ
top_phrase y = codes " and " ++ millimetres y ++ codes " mm from the top"

-- where the cursor stood on the sheet
abbrev pub on_sheet : Option SheetSpot → List ℕ
on_sheet None = []
on_sheet (Some spot) = left_phrase spot.x ++ top_phrase spot.y

-- the byte, the page that is open there, and where the cursor stood
abbrev pub place_phrase : ℕ → Option ℕ → Option SheetSpot → List ℕ
place_phrase place page cursor = named (codes " at byte ") place ++ on_page page ++ on_sheet cursor

abbrev pub is_bad_value : Reason → Bool
is_bad_value (Finding BadValue) = true
is_bad_value _ = false

-- why, in a few words
abbrev pub few_words : Option LeftOut → Reason → List ℕ
few_words left_out reason = if is_bad_value reason then value_words left_out else short_reason reason

-- a font behind these words, as the commands that ask for it
abbrev pub font_behind : List ℕ → Option FontRequest → List ℕ
font_behind words None = []
font_behind words (Some font) = words ++ font_commands font

-- the font that is asked for, and what selects the nearest face
abbrev pub font_phrase : Option MissingFont → List ℕ
font_phrase None = []
font_phrase (Some font) =
    font_behind (codes ", ") (Some font.asked) ++ font_behind (codes "; the nearest is ") font.nearest

-- what is lacked, behind these words: a font, or a character of a face
abbrev pub lacked : Option MissingFont → Reason → List ℕ
lacked font (Finding NoFont) = font_phrase font
lacked font (Finding (NoGlyph code)) = codes " " ++ escaped_byte code
lacked font _ = []

-- what is wrong, in words and as a line has it
abbrev pub reason_phrase : Option LeftOut → Option MissingFont → Reason → List ℕ
reason_phrase left_out font reason =
    codes ": " ++ few_words left_out reason ++ lacked font reason ++ codes " (" ++ reason_words reason ++ codes ")"

-- what stands behind the claim
abbrev pub verdict_phrase : FailsAt → Verdict → List ℕ
verdict_phrase at (Pass pages marks) = named (codes " (pages=") pages ++ named (codes " marks=") marks ++ codes ")"
verdict_phrase at (Fail place profile reason) =
    place_phrase place at.page at.cursor ++ what_fails at.words at.value reason
    ++ reason_phrase at.left_out at.font reason

-- ---- why there is none

abbrev pub error_phrase : Error → List ℕ
error_phrase Memory = codes "there is no memory to check this job"
error_phrase Read = codes "this job cannot be read"
error_phrase Write = codes "nothing can be written"
error_phrase Turns = codes "this job does not end"
error_phrase NoProfile = codes "there is no printer"
error_phrase Items = codes "macros pass the limit of --most-items"

abbrev pub for_printer : List (List ℕ) → ℕ → List ℕ
for_printer names number = if number == 0 then [] else codes " for " ++ get_or names (number - 1) []

-- what the system says of a read that failed
abbrev pub cause_phrase : Option (List ℕ) → List ℕ
cause_phrase None = []
cause_phrase (Some words) = codes ": " ++ first_of 200 (shown words)

-- ---- the sentence

abbrev pub answer_phrase : Reported → Result Verdict Error → List ℕ
answer_phrase report (Ok verdict) =
    job_claim report
    ++ verdict_phrase (fails_where (page_of report.answer) (cursor_of report.answer)
    (font_of report.answer) (failing_item_of report.answer)) verdict
answer_phrase report (Err error) =
    error_phrase error ++ for_printer report.names (number_told report.is_each (Err error)) ++ cause_phrase report.cause
    ++ codes " (" ++ error_words error ++ codes ")"

-- a name that begins a sentence; of a long one the end tells more
abbrev pub named_first : List ℕ → List ℕ
named_first name = last_of 500 (shown_text name) ++ codes ": "

-- a sentence begins with the job's name, and ends with the words by which a line begins or ends
abbrev pub job_sentence : Reported → List ℕ
job_sentence report = named_first report.job ++ answer_phrase report (verdict_told report.answer) ++ 10 ∷ []

-- ---- how long it is

-- at most so many bytes, and no control code
pub record IsWithin (most : ℕ) (text : List ℕ) : Type 0 where
  pub short : length text ≤ most
  pub shown : AllByRecursion (λ byte. 32 ≤ byte) text

abbrev pub IsVerdictOfNumbers : Verdict → Type 0
IsVerdictOfNumbers (Pass pages marks) = (pages < 2 ^ 64) × (marks < 2 ^ 64)
IsVerdictOfNumbers (Fail place profile reason) = place < 2 ^ 64

abbrev pub IsFailingItemOfNumbers : Option FailingItem → Type 0
IsFailingItemOfNumbers (Some (WithData command count)) = count < 2 ^ 64
IsFailingItemOfNumbers (Some (Text code)) = ⊤
IsFailingItemOfNumbers (Some (Simple item)) = ⊤
IsFailingItemOfNumbers (Some Line) = ⊤
IsFailingItemOfNumbers None = ⊤

abbrev pub IsPageOfNumber : Option ℕ → Type 0
IsPageOfNumber (Some page) = page < 2 ^ 64
IsPageOfNumber None = ⊤

abbrev pub IsSpotOfNumbers : Option SheetSpot → Type 0
IsSpotOfNumbers (Some spot) = (unsigned_abs spot.x ≤ 2 ^ 63) × (unsigned_abs spot.y ≤ 2 ^ 63)
IsSpotOfNumbers None = ⊤

-- numbers of 32 bits, and a letter that shows
pub record IsRequestOfNumbers (font : FontRequest) : Type 0 where
  pub number : font.symbol_set.number < 2 ^ 32
  pub letter : 32 ≤ font.symbol_set.letter
  pub spacing : font.spacing < 2 ^ 32
  pub pitch : font.pitch < 2 ^ 32
  pub height : font.height < 2 ^ 32
  pub style : font.style < 2 ^ 32
  pub weight : unsigned_abs font.weight < 2 ^ 32
  pub typeface : font.typeface < 2 ^ 32

abbrev pub IsFaceOfNumbers : Option FontRequest → Type 0
IsFaceOfNumbers (Some font) = IsRequestOfNumbers font
IsFaceOfNumbers None = ⊤

abbrev pub IsFontOfNumbers : Option MissingFont → Type 0
IsFontOfNumbers (Some font) = IsRequestOfNumbers font.asked × IsFaceOfNumbers font.nearest
IsFontOfNumbers None = ⊤

-- numbers of 64 bits, and of fonts of 32
abbrev pub AreNumbers : Judgement → Type 0
AreNumbers judgement =
    IsVerdictOfNumbers judgement.verdict × IsFailingItemOfNumbers judgement.failing_item × IsPageOfNumber judgement.page
    × IsSpotOfNumbers judgement.cursor × IsFontOfNumbers judgement.font

-- names of printers as their texts give them, and numbers as the program has them
pub record IsOfParts (report : Reported) : Type 0 where
  pub names : AllByRecursion (IsWithin 32) report.names
  pub numbers : IfOk report.answer AreNumbers

-- a line of at most 1,200 bytes, of which none but the last is a control code
abbrev pub IsSentence : List ℕ → Type 0
IsSentence text = (words : List ℕ) × (text ≡ words ++ 10 ∷ []) × IsWithin 1_199 words
