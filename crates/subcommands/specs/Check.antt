-- How the command `check` ends.
use Rattle.std.specs.Prelude.{ℕ, List, Option}
use Rattle.device_profile.specs.Printer.{Printer}
use Rattle.streams.specs.declared.error.Error.{Error}
use Rattle.streams.specs.declared.error.Error.TheVariants.{Memory, Read, Write, Turns, NoProfile, Items}
use Rattle.verdict.specs.declared.reason.Reason.{Reason}
use Rattle.verdict.specs.declared.verdict.Verdict.{Verdict}
use Rattle.verdict.specs.declared.verdict.Verdict.TheVariants.{Pass as PassOf, Fail as FailOf}
use Rattle.streams.specs.Outlet.{OutletState, Adds, AddsFront, Stays}
use Rattle.streams.specs.Source.{SourceState}
use Rattle.requests.specs.declared.status.Status.{Status}
use Rattle.requests.specs.declared.status.Status.TheVariants.{Pass, Fail, Help, Usage, Overwrites, NotAllowed, Told}
use Rattle.requests.specs.declared.status.Status.TheVariants.{Profile, Stopped}
use Rattle.named_inputs.specs.Fleet.{DescribeBy, DescribeFleet}
use Rattle.job_reports.specs.Lines.{verdict_line}
use Rattle.job_reports.specs.Right.{IsRightVerdict}

-- the texts of profiles: those that are known, in order, and those that were read before and after
pub record Texts : Type 0 where
  pub known : List (Option (List ℕ))
  pub given_before : List (List ℕ)
  pub given_after : List (List ℕ)

abbrev pub texts_by : List (Option (List ℕ)) → List (List ℕ) → List (List ℕ) → Texts
texts_by known given_before given_after = record {
  known = known;
  given_before = given_before;
  given_after = given_after;
}

-- the verdict is right for a fleet that the texts of its profiles describe
abbrev pub IsRightFor : Texts → SourceState → SourceState → Verdict → Type 0
IsRightFor texts job job' verdict =
    (fleet : List Printer) × DescribeFleet texts.known fleet × DescribeBy texts.given_before texts.given_after fleet
    × IsRightVerdict job job' fleet verdict

-- where a write failed, a front of the line of a verdict with this fact stands there, and otherwise nothing new
abbrev pub LeavesAtStop : Error → (Verdict → Type 0) → OutletState → OutletState → Type 0
LeavesAtStop Memory P old new = Stays old new
LeavesAtStop Read P old new = Stays old new
LeavesAtStop Write P old new = (verdict : Verdict) × P verdict × AddsFront old new (verdict_line verdict)
LeavesAtStop Turns P old new = Stays old new
LeavesAtStop NoProfile P old new = ⊥
LeavesAtStop Items P old new = ⊥

-- what a check that ends by this status leaves on standard output:
-- the line of a verdict with this fact, where it has one
abbrev pub Leaves : Status → (Verdict → Type 0) → OutletState → OutletState → Type 0
Leaves Pass P old new =
    (pages : ℕ) × (marks : ℕ) × P (PassOf pages marks) × Adds old new (verdict_line (PassOf pages marks))
Leaves Fail P old new =
    (place : ℕ) × (profile : ℕ) × (finding : Reason) × P (FailOf place profile finding)
    × Adds old new (verdict_line (FailOf place profile finding))
Leaves Help P old new = ⊥
Leaves Usage P old new = ⊥
Leaves (Overwrites input) P old new = ⊥
Leaves (NotAllowed choice) P old new = ⊥
Leaves (Told trouble) P old new = ⊥
Leaves (Profile number line cause) P old new = Stays old new
Leaves (Stopped error) P old new = LeavesAtStop error P old new
