-- What the texts of a job are that calls hand out.
use Rattle.std.specs.Prelude.{◌≡◌, ℕ, List, ◌++◌, Ok, Err, false}
use Rattle.device_profile.specs.declared.panel.Panel.{Panel}
use Rattle.device_profile.specs.Printer.{Printer, first_panel}
use Rattle.device_profile.specs.Text.{printer_of_text}
use Rattle.notes.specs.Note.{note_line}
use Rattle.renderings.specs.declared.outcome.Outcome.{Outcome}
use Rattle.renderings.specs.Expected.{IsExpected, Rendering, pages_rendering}
use Rattle.renderings.specs.Pins.{pinned_rendering}
use Rattle.named_inputs.specs.Choices.{chosen_panel}
use Rattle.subcommands.specs.JobNotes.{noted, outcome_line}
use Rattle.requests.specs.declared.choices.Choice.{Choice}
use Rattle.foreign_calls.specs.declared.rows.PanelValue.{PanelValue}
use Rattle.foreign_calls.specs.Answers.{Told}
use Rattle.foreign_calls.specs.declared.why.Why.{Why}
use Rattle.foreign_calls.specs.declared.why.Why.TheVariants.{NotAllowed, NoField}
use Rattle.foreign_calls.specs.Answers.{IsWhyOf, outcome_row}
use Rattle.foreign_calls.specs.Panels.{are_fields, choices_of}

-- the text is what is due of a job, and the row what comes of it
abbrev pub IsWritten : Rendering → (job : List ℕ) → Told → Type 0
IsWritten rendering job told =
    (outcome : Outcome) × IsExpected rendering job told.text outcome × (told.row ≡ outcome_row outcome)

-- the same, and behind it the line of the failure
abbrev pub IsWrittenWithLine : Rendering → (job : List ℕ) → Told → Type 0
IsWrittenWithLine rendering job told =
    (text : List ℕ) × (outcome : Outcome) × IsExpected rendering job text outcome
    × (told.text ≡ text ++ outcome_line outcome) × (told.row ≡ outcome_row outcome)

-- for the printer that a text describes
abbrev pub IsFor : (profile : List ℕ) → (Printer → Type 0) → Type 0
IsFor profile P = (printer : Printer) × (printer_of_text profile ≡ Ok printer) × P printer

-- what the command `notes` writes
abbrev pub IsNoted : (profile job : List ℕ) → Told → Type 0
IsNoted profile job told = IsFor profile (λ printer. IsWrittenWithLine (noted note_line printer) job told)

-- what the command `pages` writes
abbrev pub IsPaged : (profile job : List ℕ) → Told → Type 0
IsPaged profile job told =
    IsFor profile (λ printer. IsWrittenWithLine (pages_rendering printer (first_panel printer)) job told)

-- what the command `pin` writes into OUT
abbrev pub IsPinned : (profile : List ℕ) → List PanelValue → (job : List ℕ) → Told → Type 0
IsPinned profile values job told =
    IsFor profile (λ printer. (panel : Panel) × (chosen_panel printer (choices_of values) ≡ Ok panel)
    × IsWritten (pinned_rendering printer panel) job told)

-- why there is none
abbrev pub MayPin : (profile : List ℕ) → List PanelValue → Why → Type 0
MayPin profile values NotAllowed =
    IsFor profile (λ printer. (choice : Choice) × (chosen_panel printer (choices_of values) ≡ Err choice))
MayPin profile values NoField = are_fields values ≡ false
MayPin profile values why = IsWhyOf 1 profile why
