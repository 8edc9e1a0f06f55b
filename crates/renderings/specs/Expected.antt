-- What was written of a job, against the text that is due.
use Rattle.std.specs.Prelude.{◌≡◌, ◌≢◌, ◌+◌, ◌^◌, ◌≤◌, ℕ, List, [], ◌∷◌, ◌++◌, length, flat_map, false, Result, IfOk}
use Rattle.std.specs.Prelude.{IfErr, IsErrOf, IsTrue}
use Rattle.std.specs.List.{concat}
use Rattle.std.specs.Io.KnownBytes.{Consumes}
use Rattle.pcl_items.specs.declared.fault.LexCause.{LexCause}
use Rattle.pcl_items.specs.Items.{Placed}
use Rattle.pcl_lexer.specs.Lexing.Meaning.{Decides, Undecided}
use Rattle.pcl_lexer.specs.Reading.{Reading, Whole, Stopped, IsReading, items_of}
use Rattle.device_profile.specs.declared.panel.Panel.{Panel}
use Rattle.device_profile.specs.Printer.{Printer}
use Rattle.line_words.specs.ItemLines.{fault_line}
use Rattle.streams.specs.declared.error.Error.{Error}
use Rattle.streams.specs.declared.error.Error.TheVariants.{Read, Turns, NoProfile, Items}
use Rattle.renderings.specs.declared.outcome.Outcome.{Outcome}
use Rattle.streams.specs.Errors.{is_err_of_read, is_err_of_write}
use Rattle.streams.specs.Outlet.{OutletState, Adds, AddsFront}
use Rattle.renderings.specs.PageTexts.{pages_text, pages_outcome}
use Rattle.streams.specs.Pieces.{ByReads, Spell}
use Rattle.streams.specs.Source.{SourceState}
use Rattle.renderings.specs.Texts.{plain_text, list_text, reading_outcome}

-- what is due to be written of a job by its reading, and what comes of it;
-- and what a fault at a place adds to the text, behind these items
pub record Rendering : Type 0 where
  pub text : Reading → List ℕ
  pub outcome : Reading → Outcome
  pub at_fault : List Placed → ℕ → LexCause → List ℕ

-- the text is what is due for the job's one reading, and the outcome is what comes of it
abbrev pub IsExpected : Rendering → List ℕ → List ℕ → Outcome → Type 0
IsExpected rendering job text outcome =
    (reading : Reading) × IsReading job reading × (text ≡ rendering.text reading)
    × (outcome ≡ rendering.outcome reading)

-- ---- how far a job is read

-- these items stand before the rest
abbrev pub behind : List Placed → Reading → Reading
behind xs (Whole items place) = Whole (xs ++ items) place
behind xs (Stopped items place cause) = Stopped (xs ++ items) place cause

-- whatever the rest of a job is, the same is due of it
abbrev pub IsOver : Rendering → Type 0
IsOver rendering =
    (one other : Reading) →
    (rendering.text one ≡ rendering.text other) × (rendering.outcome one ≡ rendering.outcome other)

-- the text ends at these items: whatever stands behind them, the same is due
abbrev pub EndsText : Rendering → List Placed → Type 0
EndsText rendering items =
    (one other : Reading) →
    (rendering.text (behind items one) ≡ rendering.text (behind items other))
    × (rendering.outcome (behind items one) ≡ rendering.outcome (behind items other))

-- What reads gave leaves the text open:
-- it decides these items, none behind them and no fault, and the text does not end at them.
pub record LeavesTextOpen (rendering : Rendering) (pieces : List (List ℕ)) : Type 0 where
  pub bytes : List ℕ
  pub spelled : Spell pieces bytes
  pub items : List Placed
  pub decided : Decides false bytes items
  pub no_more : Undecided bytes items
  pub goes_on : EndsText rendering items → ⊥

-- Each read between old and new was needed:
-- what those before the last one gave leaves the text open, and the last one gave at most 4096 bytes.
pub record TextNeedsReads (rendering : Rendering) (old new : SourceState) : Type 0 where
  pub pieces_before : List (List ℕ)
  pub last : List ℕ
  pub given : new.given ≡ old.given ++ (pieces_before ++ last ∷ [])
  pub short : length last ≤ 4096
  pub left_open : LeavesTextOpen rendering pieces_before

-- what the reads between old and new gave, but for the last one or not even that, leaves the text open
abbrev pub TextWasOpen : Rendering → SourceState → SourceState → Type 0
TextWasOpen rendering old new =
    (pieces_before : List (List ℕ)) × (last : List (List ℕ)) × (new.given ≡ old.given ++ (pieces_before ++ last)) ×
    (length last ≤ 1)
    × LeavesTextOpen rendering pieces_before

-- what the reads between old and new gave leaves the text open
abbrev pub TextStaysOpen : Rendering → SourceState → SourceState → Type 0
TextStaysOpen rendering old new =
    (pieces : List (List ℕ)) × (new.given ≡ old.given ++ pieces) × LeavesTextOpen rendering pieces

-- ---- what was written

-- A text was written, and nothing else, and of every job that may be by what the reads gave it is what is due.
-- Each of them was needed.
pub record WritesExpected (rendering : Rendering) (source source' : SourceState)
    (outlet outlet' : OutletState) (outcome : Outcome) : Type 0 where
  pub text : List ℕ
  pub adds : Adds outlet outlet' text
  pub due : ByReads source source' (λ job. IsExpected rendering job text outcome)
  pub needed : TextNeedsReads rendering source source'

-- Some front was written, and nothing else, of what is due for the bytes that the reads gave, taken as a whole job.
-- Nothing was read once the text ended, and where a read failed, it was still open then.
pub record WritesFront (rendering : Rendering) (source source' : SourceState)
    (outlet outlet' : OutletState) : Type 0 where
  pub pieces : List (List ℕ)
  pub given_is : source'.given ≡ source.given ++ pieces
  pub consumed : Consumes source.remaining source'.remaining (concat pieces)
  pub reading : Reading
  pub spelled : IsReading (concat pieces) reading
  pub front : AddsFront outlet outlet' (rendering.text reading)
  pub was_open : TextWasOpen rendering source source'
  pub still_open : IsTrue source'.failed → TextStaysOpen rendering source source'

-- All that is due of the items was written, and nothing else, which the bytes that the reads gave decide:
-- what is due of a job that stops behind them, but for what the fault itself adds. No read gave the end.
pub record WritesDecided (rendering : Rendering) (source source' : SourceState)
    (outlet outlet' : OutletState) : Type 0 where
  pub pieces : List (List ℕ)
  pub given_is : source'.given ≡ source.given ++ pieces
  pub consumed : Consumes source.remaining source'.remaining (concat pieces)
  pub spelled : Spell pieces (concat pieces)
  pub items : List Placed
  pub decided : Decides false (concat pieces) items
  pub no_more : Undecided (concat pieces) items
  pub text : List ℕ
  pub adds : Adds outlet outlet' text
  pub due : (place : ℕ) (cause : LexCause) →
      rendering.text (Stopped items place cause) ≡ text ++ rendering.at_fault items place cause

-- What a call that writes a text of a job leaves, with this result. Of every job that may be by what
-- the reads gave, the text was written that is due, and nothing else; after an error a front of what
-- is due for the bytes that were read, and after a failed read all that these bytes decide. Nothing is
-- read behind the item that ends the text. A read or a write has failed just where the error says so;
-- `Turns` means 2^40 reads without an end.
pub record Renders (rendering : Rendering) (source source' : SourceState)
    (outlet outlet' : OutletState) (result : Result Outcome Error) : Type 0 where
  pub written : IfOk result (WritesExpected rendering source source' outlet outlet')
  pub front : IfErr result (λ _. WritesFront rendering source source' outlet outlet')
  pub decided : IsErrOf result Read → WritesDecided rendering source source' outlet outlet'
  pub read : source'.failed ≡ is_err_of_read result
  pub write : outlet'.failed ≡ is_err_of_write result
  pub turns : IsErrOf result Turns → length source'.given ≡ length source.given + 2 ^ 40
  pub long : IsErrOf result Turns → ByReads source source' (λ job. 2 ^ 40 ≤ length job)
  pub never_no_profile : IfErr result (λ error. error ≢ NoProfile)
  pub never_items : IfErr result (λ error. error ≢ Items)

-- a fault adds nothing
abbrev pub nothing_at_fault : List Placed → ℕ → LexCause → List ℕ
nothing_at_fault items place cause = []

-- each item by itself, and nothing for a fault
abbrev pub item_by_item : (Placed → List ℕ) → Rendering
item_by_item text_of = record {
  text = λ reading. flat_map text_of (items_of reading);
  outcome = reading_outcome;
  at_fault = nothing_at_fault;
}

abbrev pub plain_rendering : Rendering
plain_rendering = record { text = plain_text; outcome = reading_outcome; at_fault = nothing_at_fault }

abbrev pub list_rendering : Rendering
list_rendering =
    record { text = list_text; outcome = reading_outcome; at_fault = λ items place cause. fault_line place cause }

abbrev pub pages_rendering : Printer → Panel → Rendering
pages_rendering printer panel = record {
  text = pages_text printer panel;
  outcome = pages_outcome printer panel;
  at_fault = nothing_at_fault;
}
