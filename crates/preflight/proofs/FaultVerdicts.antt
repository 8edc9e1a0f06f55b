-- A verdict with a fault of the bytes is that of a reading that stops there.
use Rattle.std.proofs.Common.{◌≡◌, ℕ, ◌+◌, Bool, true, false, List, [], ◌∷◌, ◌++◌, Option, None, Some, refl, subst}
use Rattle.std.specs.Prelude.{nat_le, if◌then◌else◌}
use Rattle.std.specs.List.{AllByRecursion}
use Rattle.pcl_items.specs.declared.fault.LexCause.{LexCause}
use Rattle.pcl_lexer.specs.Reading.{Reading, Whole, Stopped, items_of}
use Rattle.device_profile.specs.Printer.{Printer}
use Rattle.page_env.specs.declared.finding.Finding.{Finding}
use Rattle.page_machine.specs.Event.{Event}
use Rattle.page_machine.specs.Job.{ItemRun, events_of}
use Rattle.verdict.specs.declared.reason.Reason.{Reason}
use Rattle.verdict.specs.declared.reason.Reason.TheVariants.{Differs, Fault as FaultOfBytes}
use Rattle.verdict.specs.declared.verdict.Verdict.TheVariants.{Fail}
use Rattle.sinks.specs.Same.{are_same}
use Rattle.judgement.specs.Wrong.{Wrong, wrong, found_or, findings_in, differences_in, of_each, first_run, all_wrong, sooner, soonest}
use Rattle.judgement.specs.Wrong.{first_wrong}
use Rattle.judgement.specs.Verdict.{verdict_by, verdict_of, runs_of}

-- what is wrong in runs is no fault of the bytes
abbrev IsOfRuns : Reason → Type 0
IsOfRuns (FaultOfBytes cause) = ⊥
IsOfRuns _ = Unit {0}

abbrev AreOfRuns : List Wrong → Type 0
AreOfRuns wrongs = AllByRecursion (λ w. IsOfRuns w.reason) wrongs

both : (xs ys : List Wrong) → AreOfRuns xs → AreOfRuns ys → AreOfRuns (xs ++ ys)
both [] ys h k = k
both (x ∷ xs) ys h k = (h.0, both xs ys h.1 k)

findings_are : (profile count_before : ℕ) (items : List ItemRun) → AreOfRuns (findings_in profile count_before items)
findings_are profile count_before [] = tt
findings_are profile count_before (item ∷ items) = by item.finding (findings_are profile (count_before + 1) items)
  where
    by : (o : Option Finding) → AreOfRuns (findings_in profile (count_before + 1) items) →
        AreOfRuns (found_or profile count_before item.place o (findings_in profile (count_before + 1) items))
    by (Some finding) h = (tt, tt)
    by None h = h

differences_are : (first : List ItemRun) (profile count_before : ℕ) (items : List ItemRun) →
    AreOfRuns (differences_in first profile count_before items)
differences_are [] profile count_before items = tt
differences_are (a ∷ first) profile count_before [] = tt
differences_are (a ∷ first) profile count_before (b ∷ items) =
    by (are_same a.events b.events) (differences_are first profile (count_before + 1) items)
  where
    by : (same : Bool) → AreOfRuns (differences_in first profile (count_before + 1) items) →
        AreOfRuns (if same then differences_in first profile (count_before + 1) items else wrong count_before b.place profile Differs ∷ [])
    by true h = h
    by false h = (tt, tt)

each_are : (each : ℕ → ℕ → List ItemRun → List Wrong) →
    ((profile count_before : ℕ) (items : List ItemRun) → AreOfRuns (each profile count_before items)) →
    (profile : ℕ) (runs : List (List ItemRun)) →
    AreOfRuns (of_each each profile runs)
each_are each h profile [] = tt
each_are each h profile (run ∷ runs) =
    both (each profile 0 run) (of_each each (profile + 1) runs) (h profile 0 run) (each_are each h (profile + 1) runs)

all_are : (runs : List (List ItemRun)) → AreOfRuns (all_wrong runs)
all_are runs =
    both (of_each findings_in 1 runs) (of_each (differences_in (first_run runs)) 1 runs)
    (each_are findings_in findings_are 1 runs) (each_are (differences_in (first_run runs)) (differences_are (first_run runs)) 1 runs)

same_reason : (v w : Wrong) → Some v ≡ Some w → IsOfRuns v.reason → IsOfRuns w.reason
same_reason v w e h = let is : v ≡ w = cc in subst (λ (x : Wrong). IsOfRuns x.reason) is h

soonest_is : (ws : List Wrong) → AreOfRuns ws → (w : Wrong) → soonest ws ≡ Some w → IsOfRuns w.reason
soonest_is [] h w e = absurd cc
soonest_is (v ∷ ws) h w e = by (soonest ws) (soonest_is ws h.1) e
  where
    either : (u : Wrong) (now : Bool) → IsOfRuns u.reason → (if now then Some v else Some u) ≡ Some w → IsOfRuns w.reason
    either u true k e = same_reason v w e h.0
    either u false k e = same_reason u w e k

    by : (o : Option Wrong) → ((u : Wrong) → o ≡ Some u → IsOfRuns u.reason) → sooner v o ≡ Some w → IsOfRuns w.reason
    by None k e = same_reason v w e h.0
    by (Some u) k e = either u (nat_le v.count_before u.count_before) (k u refl) e

-- such a verdict comes where nothing is wrong in the runs
stops_by : (o : Option Wrong) (reading : Reading) (events : List Event) (place : ℕ) (cause : LexCause) →
    ((w : Wrong) → o ≡ Some w → IsOfRuns w.reason) → Fail place 0 (FaultOfBytes cause) ≡ verdict_by o reading events →
    reading ≡ Stopped (items_of reading) place cause
stops_by (Some w) reading events place cause h e =
    let reason : w.reason ≡ FaultOfBytes cause = cc in absurd (subst IsOfRuns reason (h w refl))
stops_by None (Stopped items stop found) events place cause h e =
    let at : stop ≡ place = cc in
    let is : found ≡ cause = cc in
    λ i. Stopped items (at i) (is i)
stops_by None (Whole items stop) events place cause h e = absurd cc

pub stops_there : (fleet : List Printer) (reading : Reading) (place : ℕ) (cause : LexCause) →
    Fail place 0 (FaultOfBytes cause) ≡ verdict_of fleet reading → reading ≡ Stopped (items_of reading) place cause
stops_there fleet reading place cause e =
    let runs = runs_of fleet reading in
    stops_by (first_wrong runs) reading (events_of (first_run runs)) place cause (soonest_is (all_wrong runs) (all_are runs)) e
