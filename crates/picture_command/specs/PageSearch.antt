-- What is told of the pages of a job before they are drawn: whether the job fails on them, and whether it has them.
use Rattle.std.specs.Prelude.{ℕ, ◌+◌, false, List, [], ◌∷◌, ◌++◌, codes, decimal, drop, flat_map, length, get_or}
use Rattle.std.specs.Prelude.{None, Ok, Option, Some, if◌then◌else◌, Bool, is_none}
use Rattle.pcl_items.specs.declared.fault.LexCause.{LexCause}
use Rattle.pcl_items.specs.Spellings.Canon.{canon}
use Rattle.pcl_items.specs.Escapes.Commands.{introducer_of, character_of, data_group_of, data_letter_of}
use Rattle.pcl_items.specs.Items.{Entry, Placed, Text, WithData, PjlLine}
use Rattle.pcl_lexer.specs.Reading.{Reading, Whole, Stopped}
use Rattle.device_profile.specs.declared.panel.Panel.{Panel}
use Rattle.device_profile.specs.Nearest.{nearest_request}
use Rattle.device_profile.specs.Printer.{Printer}
use Rattle.macro_store.specs.Store.{Store, no_macros}
use Rattle.page_env.specs.declared.finding.Finding.{Finding}
use Rattle.page_env.specs.Effect.{first_unset}
use Rattle.page_env.specs.FontInForce.{font_reads, request_of}
use Rattle.page_env.specs.Places.{cursor_reads, x_on_sheet, y_on_sheet}
use Rattle.page_env.specs.Settings.{Settings, State, start_state, user_defaults, unwatched}
use Rattle.page_machine.specs.Run.{Run, Ending, Done, Halts}
use Rattle.page_machine.specs.Defining.{job_item_run, job_end_run, macros_after}
use Rattle.page_machine.specs.Job.{with_macros}
use Rattle.page_machine.specs.Still.{is_one_step}
use Rattle.judgement.specs.declared.failing_item.MissingFont.{MissingFont}
use Rattle.judgement.specs.declared.failing_item.SheetSpot.{SheetSpot}
use Rattle.sinks.specs.declared.counts.Counts.{Counts}
use Rattle.sinks.specs.Counts.{capped, counts_after, no_counts}
use Rattle.verdict.specs.declared.failure.Failure.{Failure}
use Rattle.verdict.specs.declared.verdict.Verdict.{Verdict}
use Rattle.verdict.specs.Failing.{failing, fault_at, found_at}
use Rattle.line_words.specs.Figures.{escaped_byte, named}
use Rattle.renderings.specs.declared.outcome.Outcome.{Outcome}
use Rattle.renderings.specs.declared.outcome.Outcome.TheVariants.{Done as AllDone}
use Rattle.renderings.specs.Outcomes.{fails_with}
use Rattle.renderings.specs.Expected.{Rendering}
use Rattle.requests.specs.declared.selection.DrawnPages.{DrawnPages}
use Rattle.requests.specs.declared.selection.DrawnPages.TheVariants.{All, One}
use Rattle.requests.specs.declared.selection.Selection.{Selection}
use Rattle.requests.specs.Selection.{is_behind, is_drawn}
use Rattle.job_reports.specs.CommandWords.{code_words}
use Rattle.job_reports.specs.Groups.{Groups}
use Rattle.job_reports.specs.JobSentences.{FailsAt, claim_by, fails_at, for_each, named_first, subject, verdict_phrase}
use Rattle.job_reports.specs.LeftOut.{left_out_in}
use Rattle.job_reports.specs.Reports.{number_told}

-- ---- sentences

-- an item in its one spelling, but without data; of a line only how it begins
abbrev pub item_words : Entry → List ℕ
item_words (Text code) = codes "character " ++ escaped_byte code
item_words (WithData command bytes) =
    codes "ESC " ++ introducer_of (data_group_of command) ∷ character_of (data_group_of command)
    ∷ (decimal (length bytes) ++ data_letter_of command ∷ [])
item_words (PjlLine line) = codes "@PJL"
item_words item = flat_map code_words (canon item)

-- where the cursor stands on the sheet, if no panel decides that
abbrev pub spot_of : Printer → State → Option SheetSpot
spot_of printer s =
    if is_none (first_unset s.settings (cursor_reads s.cursor.y))
    then (Some (record { x = x_on_sheet printer s; y = y_on_sheet printer s }))
    else None

-- which font is asked for, if no panel decides that, and the nearest face
abbrev pub font_of : Printer → State → Option MissingFont
font_of printer s =
    if is_none (first_unset s.settings (font_reads s.settings.job.font))
    then (Some (record {
      asked = request_of printer s;
      nearest = nearest_request printer.faces (request_of printer s);
    }))
    else None

-- both are told before an item that is one step
abbrev pub spot_where : Bool → Printer → State → Option SheetSpot
spot_where one_step printer s = if one_step then spot_of printer s else None

abbrev pub font_where : Bool → Printer → State → Option MissingFont
font_where one_step printer s = if one_step then font_of printer s else None

-- the key of a command with its value: the item's spelling without ESC, where it has no data
abbrev pub item_value : Entry → Option (List ℕ)
item_value (Text code) = None
item_value (WithData command bytes) = None
item_value (PjlLine line) = None
item_value item = Some (drop 1 (canon item))

-- where a failure at an item stands, whatever its page
abbrev pub at_item : Printer → State → Entry → FailsAt
at_item printer s item = record {
  page = None;
  cursor = spot_where (is_one_step item) printer s;
  font = font_where (is_one_step item) printer s;
  words = codes ", " ++ item_words item;
  value = item_value item;
  left_out = left_out_in item;
}

-- the sentence on a verdict on the job of this name for these printers, where the failure stands so
abbrev pub sentence : (job : List ℕ) → Groups → (at : FailsAt) → Verdict → List ℕ
sentence job group at verdict =
    named_first job
    ++ (claim_by (subject group.names (number_told group.is_each (Ok verdict))) (for_each group.is_each group.names)
    at.left_out (Ok verdict) ++ verdict_phrase at verdict)
    ++ 10 ∷ []

-- the job does not have the page of this number, but so many
abbrev pub missing_line : (job : List ℕ) → (number pages : ℕ) → List ℕ
missing_line job number pages =
    named_first job ++ named (codes "there is no page ") number ++ named (codes " (pages=") pages ++ codes ")\n"

-- all pages are drawn, so many with so many marks; from another panel the job may fail
abbrev pub drawn_line : (job : List ℕ) → Groups → Counts → List ℕ
drawn_line job group counts =
    named_first job ++ get_or group.names 0 [] ++ named (codes " prints this job from this panel (pages=") counts.pages
    ++ named (codes " marks=") counts.marks ++ codes ")\n"

-- ---- what is told

-- the text, and what comes of the pages that are searched for
pub record Searched : Type 0 where
  pub text : List ℕ
  pub outcome : Outcome

-- they come, and end
abbrev pub nothing_told : Searched
nothing_told = record { text = []; outcome = AllDone }

-- a page that is searched for alone is missing
abbrev pub missing_part_of : DrawnPages → (job : List ℕ) → Counts → List ℕ
missing_part_of All job counts = []
missing_part_of (One number) job counts = missing_line job number counts.pages

abbrev pub missing_part : Selection → (job : List ℕ) → Counts → List ℕ
missing_part selection job counts = missing_part_of selection.pages job counts

-- the number of the page that is open
abbrev pub open_page : Counts → ℕ
open_page counts = capped (counts.pages + 1)

-- and where a failure stands on it
abbrev pub on_open_page : Counts → FailsAt → FailsAt
on_open_page counts at = record at { page = Some (open_page counts) }

-- a failure, where so much was counted: on a page that is searched for, or before it, where the job does not have it
abbrev pub found_at_failure : Selection → (job : List ℕ) → Groups → Counts → (at : FailsAt) → Failure → Searched
found_at_failure selection job group counts at failure =
    if is_drawn selection (open_page counts)
    then (record {
      text = sentence job group (on_open_page counts at) (failing failure);
      outcome = fails_with failure;
    })
    else (record {
      text = missing_part selection job counts ++ sentence job group (on_open_page counts at) (failing failure);
      outcome = AllDone;
    })

-- the end of a job behind which more is searched for
abbrev pub text_of_end : DrawnPages → (job : List ℕ) → Groups → Counts → List ℕ
text_of_end All job group counts = drawn_line job group counts
text_of_end (One number) job group counts = missing_line job number counts.pages

abbrev pub text_at_end : Selection → (job : List ℕ) → Groups → Counts → List ℕ
text_at_end selection job group counts = text_of_end selection.pages job group counts

abbrev pub found_at_end : Selection → (job : List ℕ) → Groups → Counts → Searched
found_at_end selection job group counts = record { text = text_at_end selection job group counts; outcome = AllDone }

-- ---- items

abbrev pub behind_ending : Ending → (State → Searched) → (Finding → Searched) → Searched
behind_ending (Done t) next failed = next t
behind_ending (Halts finding) next failed = failed finding

-- of an item at a place, or of the end of the bytes, that ran so, and then what follows
abbrev pub run_search : Selection → (job : List ℕ) → Groups → Counts → (at : FailsAt) → ℕ → Run →
    (Counts → State → Searched) → Searched
run_search selection job group counts at place r next =
    let counts' = counts_after r.events counts in
    if is_behind selection (open_page counts') then nothing_told
    else (behind_ending r.ending (next counts') (λ finding.
    found_at_failure selection job group counts' at (found_at place 1 finding)))

-- of items, and then what comes last
abbrev pub items_search : Selection → (job : List ℕ) → Groups → Printer → Settings →
    (Counts → Store → State → Searched) → Counts → List Placed → Store → State → Searched
items_search selection job group printer defaults finally counts [] macros s = finally counts macros s
items_search selection job group printer defaults finally counts (x ∷ items) macros s =
    run_search selection job group counts (at_item printer s x.item) x.place
    (job_item_run (with_macros printer defaults macros) x.item s)
    (λ counts' t. items_search selection job group printer defaults finally counts' items
    (macros_after s.settings.job.macro_id x.item macros) t)

abbrev pub end_search : Selection → (job : List ℕ) → Groups → Printer → Settings → ℕ → Counts → Store → State → Searched
end_search selection job group printer defaults place counts macros s =
    run_search selection job group counts (fails_at None None) place
    (job_end_run (with_macros printer defaults macros) s)
    (λ counts' t. found_at_end selection job group counts')

abbrev pub fault_search : Selection → (job : List ℕ) → Groups → ℕ → LexCause → Counts → Store → State → Searched
fault_search selection job group place cause counts macros s =
    found_at_failure selection job group counts (fails_at None None) (fault_at place cause)

-- of the items of a job and its end, or of the items before a fault and of the fault
abbrev pub reading_search : Selection → (job : List ℕ) → Groups → Printer → Settings → Counts → Reading → Store →
    State → Searched
reading_search selection job group printer defaults counts (Whole items place) macros s =
    items_search selection job group printer defaults
    (end_search selection job group printer defaults place) counts items macros s
reading_search selection job group printer defaults counts (Stopped items place cause) macros s =
    items_search selection job group printer defaults
    (fault_search selection job group place cause) counts items macros s

-- ---- the job

-- from a panel; nothing is told before the end of it
abbrev pub job_search : Printer → Panel → Selection → (job : List ℕ) → Groups → Reading → Searched
job_search printer panel selection job group reading =
    let defaults : Settings = user_defaults unwatched panel in
    reading_search selection job group printer defaults no_counts reading (no_macros printer.memory)
    (start_state printer.most_items defaults)

abbrev pub search_rendering : Printer → Panel → Selection → (job : List ℕ) → Groups → Rendering
search_rendering printer panel selection job group = record {
  text = λ reading. (job_search printer panel selection job group reading).text;
  outcome = λ reading. (job_search printer panel selection job group reading).outcome;
  at_fault = λ items place cause. (job_search printer panel selection job group (Stopped items place cause)).text;
}
