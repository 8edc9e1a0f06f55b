-- Texts of profiles, and what is wrong with them.
use Rattle.std.specs.Prelude.{◌≡◌, ℕ, List, [], ◌∷◌, Bool, if◌then◌else◌, Result, Ok, Err, IfOk, IfErr, IsNone}
use Rattle.std.specs.Prelude.{length, ⊤}
use Rattle.device_profile.specs.Printer.{Printer}
use Rattle.device_profile.specs.Text.{printer_of_text}
use Rattle.foreign_calls.specs.declared.rows.Refusal.{Refusal}
use Rattle.foreign_calls.specs.declared.why.Why.{Why}
use Rattle.foreign_calls.specs.declared.why.Why.TheVariants.{Stopped, NotText, Unheard}
use Rattle.foreign_calls.specs.Answers.{IsWhyOf, filled, refusal_by, room_number, why_number, work_number}
use Rattle.printer_models.specs.declared.new_profile.NewError.{NewError}
use Rattle.printer_models.specs.declared.new_profile.NewError.TheVariants.{UnknownModel, Paper, Mismatch}
use Rattle.printer_models.specs.declared.new_profile.NewError.TheVariants.{Memory as NoMemory}
use Rattle.printer_models.specs.declared.panel_lists.PanelLists.TheVariants.{Fixed}
use Rattle.printer_models.specs.Model.{model_named}
use Rattle.printer_models.specs.NewText.{DescribesAsked}
use Rattle.profile_lint.specs.Lint.{Named, have_faults, lint_text}
use Rattle.streams.specs.declared.error.Error.TheVariants.{Memory, Write}

-- ---- new texts

-- the text describes the model of this name, with the usual papers and a panel that nobody uses
abbrev pub IsNew : (model text : List ℕ) → Type 0
IsNew model text = DescribesAsked (model_named model) [] Fixed text

-- why there is none: no model has this name, it is no UTF-8, or work stopped
abbrev pub IsNoNew : (model : List ℕ) → Why → Type 0
IsNoNew model Unheard = IsNone (model_named model)
IsNoNew model NotText = ⊤
IsNoNew model (Stopped error) = ⊤
IsNoNew model _ = ⊥

-- by the error of a new text
abbrev pub why_no_new : NewError → Why
why_no_new UnknownModel = Unheard
why_no_new (Paper fault) = Stopped Write
why_no_new Mismatch = Stopped Write
why_no_new NoMemory = Stopped Memory

-- ---- faults

-- a text under its name, alone
abbrev pub alone : (name profile : List ℕ) → List Named
alone name profile = record { word = name; text = profile } ∷ []

-- these lines tell all that is found in it, and whether it has faults
abbrev pub IsFound : (name profile lines : List ℕ) → (has_faults : Bool) → Type 0
IsFound name profile lines has_faults =
    (lines ≡ lint_text (alone name profile)) × (has_faults ≡ have_faults (alone name profile))

-- what is found, as it is told
pub record Found : Type 0 where
  pub lines : List ℕ
  pub has_faults : Bool

abbrev pub told_faults : Bool → ℕ
told_faults has_faults = if has_faults then 1 else 0

-- it is told, or the number says why it is not, and nothing is written
abbrev pub IsLeft : Result Found Why → (number faults faults' : ℕ) → (room room' : List ℕ) → (needed needed' : ℕ) →
    Type 0
IsLeft (Ok found) number faults faults' room room' needed needed' =
    (number ≡ room_number found.lines room) × (faults' ≡ told_faults found.has_faults)
    × (room' ≡ filled found.lines room) × (needed' ≡ length found.lines)
IsLeft (Err why) number faults faults' room room' needed needed' =
    (number ≡ why_number why) × (faults' ≡ faults) × (room' ≡ room) × (needed' ≡ needed)

-- why nothing is told: the name is no UTF-8, or work stopped
abbrev pub IsUntold : Why → Type 0
IsUntold NotText = ⊤
IsUntold (Stopped error) = ⊤
IsUntold _ = ⊥

-- what a call leaves that tells what is found in a text of this name
pub record Lints (name profile : List ℕ) (number faults faults' : ℕ) (room room' : List ℕ)
    (needed needed' : ℕ) : Type 0 where
  pub work : Result Found Why
  pub found : IfOk work (λ found. IsFound name profile found.lines found.has_faults)
  pub untold : IfErr work IsUntold
  pub left : IsLeft work number faults faults' room room' needed needed'

-- ---- why a text is refused

-- what a call leaves that tells why a text describes no printer, where it does not
pub record Refuses (profile : List ℕ) (number : ℕ) (refusal refusal' : Refusal) : Type 0 where
  pub work : Result Printer Why
  pub described : IfOk work (λ printer. printer_of_text profile ≡ Ok printer)
  pub refused : IfErr work (IsWhyOf 1 profile)
  pub number_is : number ≡ work_number work
  pub refusal_is : refusal' ≡ refusal_by refusal work
