-- The printers that jobs are checked for, in groups.
use Rattle.std.specs.Prelude.{ℕ, Bool, List, take, drop, length, Option, Result, if◌then◌else◌}
use Rattle.device_profile.specs.Printer.{Printer}
use Rattle.judgement.specs.declared.failing_item.Judgement.{Judgement}
use Rattle.streams.specs.declared.error.Error.{Error}
use Rattle.job_reports.specs.Reports.{Reported}

-- the printers, those that notes are told for, the names, and whether each printer has lines of its own
pub record Groups : Type 0 where
  pub fleet : List Printer
  pub note_printers : List Printer
  pub names : List (List ℕ)
  pub is_each : Bool

-- how many groups there are: all printers together, or each by itself
abbrev pub group_count : Groups → ℕ
group_count groups = if groups.is_each then length groups.fleet else 1

abbrev pub of_group : {X : Type 0} → Bool → List X → ℕ → List X
of_group is_each all number = if is_each then take 1 (drop number all) else all

-- the group of this number, from 0
abbrev pub group_at : Groups → ℕ → Groups
group_at groups number = record {
  fleet = of_group groups.is_each groups.fleet number;
  note_printers = of_group groups.is_each groups.note_printers number;
  names = of_group groups.is_each groups.names number;
  is_each = groups.is_each;
}

-- what is told of a job for a group: what came of it, and what the system said of a read that failed
abbrev pub reported : Groups → List ℕ → Result Judgement Error → Option (List ℕ) → Reported
reported group job answer cause =
    record { is_each = group.is_each; names = group.names; job = job; answer = answer; cause = cause }
