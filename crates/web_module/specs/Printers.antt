-- Printers of the texts of profiles that stand one behind another.
use Rattle.std.specs.Prelude.{◌≡◌, ◌+◌, ℕ, List, [], ◌∷◌, ◌++◌, Bool, drop, length, map, take, Ok}
use Rattle.device_profile.specs.Name.{printer_name}
use Rattle.device_profile.specs.Printer.{Printer}
use Rattle.device_profile.specs.Text.{printer_of_text}
use Rattle.foreign_calls.specs.declared.why.Why.{Why}
use Rattle.foreign_calls.specs.Answers.{IsWhyOf}
use Rattle.job_reports.specs.Groups.{Groups}

-- texts of these lengths, one behind another
abbrev pub texts_of : (lengths text : List ℕ) → List (List ℕ)
texts_of [] text = []
texts_of (n ∷ lengths) text = take n text ∷ texts_of lengths (drop n text)

-- printers, and their names in the same order
pub record Fleet : Type 0 where
  pub printers : List Printer
  pub names : List (List ℕ)

-- each text describes its printer, and has its name
abbrev pub IsFleetOf : List (List ℕ) → Fleet → Type 0
IsFleetOf texts fleet =
    (map printer_of_text texts ≡ map (λ printer. Ok printer) fleet.printers) × (fleet.names ≡ map printer_name texts)

-- the same printers, and behind them the one that this text describes
pub record IsWith (text : List ℕ) (old new : Fleet) : Type 0 where
  pub printer : Printer
  pub described : printer_of_text text ≡ Ok printer
  pub printers : new.printers ≡ old.printers ++ printer ∷ []
  pub names : new.names ≡ old.names ++ printer_name text ∷ []

-- one of the texts is why there are no printers: it is refused, or work stopped
abbrev pub IsRefusedOf : List (List ℕ) → Why → Type 0
IsRefusedOf texts why =
    (before : List (List ℕ)) × (text : List ℕ) × (behind : List (List ℕ)) × (texts ≡ before ++ text ∷ behind)
    × IsWhyOf (length before + 1) text why

-- printers together, or the one by itself
abbrev pub group_of : Fleet → (is_each : Bool) → Groups
group_of fleet is_each =
    record { fleet = fleet.printers; note_printers = []; names = fleet.names; is_each = is_each }
