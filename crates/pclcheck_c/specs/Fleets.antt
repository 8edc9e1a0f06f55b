-- What the calls on fleets leave.
use Rattle.std.specs.Prelude.{◌≡◌, ◌⊎◌, ◌+◌, ◌-◌, ◌==◌, ℕ, List, [], ◌∷◌, ◌++◌, Bool, false, true, if◌then◌else◌}
use Rattle.std.specs.Prelude.{length, map, Option, None, Some, Result, IfOk, IfErr}
use Rattle.device_profile.specs.Name.{printer_name}
use Rattle.device_profile.specs.Printer.{Printer}
use Rattle.job_reports.specs.Groups.{Groups, group_at}
use Rattle.pclcheck_c.specs.declared.fleet.Fleet.{Fleet}
use Rattle.foreign_calls.specs.declared.rows.Refusal.{Refusal}
use Rattle.foreign_calls.specs.declared.why.Why.{Why}
use Rattle.foreign_calls.specs.Answers.{IsWhyOf, refusal_by, work_number}
use Rattle.foreign_calls.specs.Limits.{IsPrinterOf}

-- the names of the printers
abbrev pub names_of : Fleet → List (List ℕ)
names_of fleet = map (λ name. name.items) fleet.names.items

-- the printers of a fleet, all together or each by itself
abbrev pub groups_of : Fleet → Bool → Groups
groups_of fleet is_each = record {
  fleet = fleet.profiles.items;
  note_printers = [];
  names = map (λ name. name.items) fleet.names.items;
  is_each = is_each;
}

-- those that are asked for: all for 0, else the one of this number by itself
abbrev pub asked : Fleet → (printer : ℕ) → Groups
asked fleet printer =
    if printer == 0 then groups_of fleet false else group_at (groups_of fleet true) (printer - 1)

-- no printer
pub record HasNone (fleet : Fleet) : Type 0 where
  pub printers : fleet.profiles.items ≡ []
  pub names : names_of fleet ≡ []
  pub no_limit : fleet.most_items ≡ None

-- the same printers, with the same names and limit
pub record IsSame (old new : Fleet) : Type 0 where
  pub printers : new.profiles.items ≡ old.profiles.items
  pub names : names_of new ≡ names_of old
  pub limit : new.most_items ≡ old.most_items

-- and behind them the one that this text describes, with the limit of the fleet
pub record IsWith (text : List ℕ) (old new : Fleet) : Type 0 where
  pub printer : Printer
  pub described : IsPrinterOf old.most_items text printer
  pub printers : new.profiles.items ≡ old.profiles.items ++ printer ∷ []
  pub names : names_of new ≡ names_of old ++ printer_name text ∷ []
  pub limit : new.most_items ≡ old.most_items

-- where a printer does not come into a fleet that is the same, this is why
abbrev pub IsRefusedBy : (text : List ℕ) → (old new : Fleet) → Why → Type 0
IsRefusedBy text old new why = IsSame old new × IsWhyOf (length old.profiles.items + 1) text why

-- what a call leaves that makes a fleet
abbrev pub IsMade : (number : ℕ) → (held held' : Option Fleet) → Type 0
IsMade number held held' =
    ((number ≡ 0) × (fleet : Fleet) × (held' ≡ Some fleet) × HasNone fleet) ⊎ ((number ≡ 2) × (held' ≡ held))

-- what a call leaves that limits the printers to come
abbrev pub Limits : (most : ℕ) → (held held' : Option Fleet) → Type 0
Limits most None held' = ⊥
Limits most (Some old) held' = held' ≡ Some (record old { most_items = Some most })

-- what a call leaves that adds a printer
pub record Adds (text : List ℕ) (number : ℕ) (old new : Fleet) (refusal refusal' : Refusal) : Type 0 where
  pub work : Result (Unit {0}) Why
  pub added : IfOk work (λ _. IsWith text old new)
  pub refused : IfErr work (IsRefusedBy text old new)
  pub number_is : number ≡ work_number work
  pub refusal_is : refusal' ≡ refusal_by refusal work
