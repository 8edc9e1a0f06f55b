-- A part of a fleet passes what the fleet passes.
use Rattle.std.proofs.Common.{◌≡◌, ◌<◌, ℕ, List, [], ◌∷◌, length, Option, None, Some, refl, ap, sym, ◌∙◌, arith}
use Rattle.std.specs.List.{AllByRecursion, All, Contains}
use Rattle.std.proofs.lemmas.List.Elements.{recursion_from_All}
use Rattle.pcl_lexer.specs.Reading.{Reading}
use Rattle.device_profile.specs.Printer.{Printer}
use Rattle.page_machine.specs.Event.{Event}
use Rattle.page_machine.specs.Job.{ItemRun, events_of}
use Rattle.verdict.specs.declared.verdict.Verdict.TheVariants.{Pass}
use Rattle.judgement.specs.Wrong.{Wrong, first_run, first_wrong}
use Rattle.judgement.specs.Verdict.{watched_items, runs_of, verdict_by, verdict_of}
use Rattle.preflight.proofs.Side.{alike_runs}
use Rattle.preflight.proofs.Passing.{all_contained}
use Rattle.preflight.proofs.Parts.{AreOne, are_one}

all_parts : (reading : Reading) (fleet part : List Printer) → AreOne reading fleet → AllByRecursion (Contains fleet) part →
    AllByRecursion (λ r. r ≡ first_run (runs_of fleet reading)) (runs_of part reading)
all_parts reading fleet [] one c = tt
all_parts reading fleet (p ∷ ps) one c = (
  all_contained (λ printer. watched_items printer reading ≡ first_run (runs_of fleet reading)) fleet p one.one c.0,
  all_parts reading fleet ps one c.1,
)

first_part : (run : List ItemRun) (reading : Reading) (part : List Printer) → 0 < length part →
    AllByRecursion (λ r. r ≡ run) (runs_of part reading) → first_run (runs_of part reading) ≡ run
first_part run reading [] some all = absurd (omega (arith, some))
first_part run reading (p ∷ ps) some all = all.0

passed_none : (o : Option Wrong) (reading : Reading) (events : List Event) (page_total mark_total : ℕ) →
    verdict_by o reading events ≡ Pass page_total mark_total → o ≡ None
passed_none None reading events page_total mark_total e = refl
passed_none (Some w) reading events page_total mark_total e = absurd cc

pub part_passes : (fleet part : List Printer) (reading : Reading) (page_total mark_total : ℕ) →
    verdict_of fleet reading ≡ Pass page_total mark_total → All (Contains fleet) part → 0 < length part →
    verdict_of part reading ≡ Pass page_total mark_total
part_passes fleet part reading page_total mark_total passed contained some =
    let first : List ItemRun = first_run (runs_of fleet reading) in
    let none : first_wrong (runs_of fleet reading) ≡ None =
    passed_none (first_wrong (runs_of fleet reading)) reading (events_of first) page_total mark_total passed in
    let one : AreOne reading fleet = are_one reading fleet none in
    let all : AllByRecursion (λ r. r ≡ first) (runs_of part reading) =
    all_parts reading fleet part one (recursion_from_All (Contains fleet) part contained) in
    ap (λ w. verdict_by w reading (events_of (first_run (runs_of part reading)))) (alike_runs first (runs_of part reading) one.agreed all)
    ∙ (ap (λ run. verdict_by None reading (events_of run)) (first_part first reading part some all)
    ∙ (ap (λ w. verdict_by w reading (events_of first)) (sym none) ∙ passed))
