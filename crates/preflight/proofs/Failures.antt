-- What a Fail says of the printers of a fleet.
use Rattle.std.proofs.Common.{◌≡◌, inl, inr, ℕ, List, Option, None, Some, refl, ap, sym, ◌∙◌, subst}
use Rattle.pcl_lexer.specs.Reading.{Reading, Whole, Stopped}
use Rattle.device_profile.specs.declared.panel.Panel.{Panel}
use Rattle.device_profile.specs.Printer.{Printer}
use Rattle.page_env.specs.Settings.{watched}
use Rattle.page_machine.specs.Job.{ItemRun, events_of, plain_run, watched_run}
use Rattle.page_machine.specs.Laws.{IsWatchedAlike, RunsPlainly}
use Rattle.page_machine.specs.Pinning.{finding_of}
use Rattle.verdict.specs.declared.reason.Reason.{Reason}
use Rattle.verdict.specs.declared.reason.Reason.TheVariants.{Fault}
use Rattle.verdict.specs.declared.verdict.Verdict.TheVariants.{Fail}
use Rattle.judgement.specs.Wrong.{Wrong, findings_in, differences_in, of_each, first_run, first_wrong}
use Rattle.judgement.specs.Verdict.{watched_items, runs_of, verdict_by, verdict_of}
use Rattle.judgement.specs.Failing.{events_by_item, FindsNothing, FailSays}
use Rattle.preflight.proofs.Soonest.{soonest_in, in_either}
use Rattle.preflight.proofs.RunEnds.{set_of, ends_without, no_finding}
use Rattle.preflight.proofs.FirstPanels.{same_items, plain_items}
use Rattle.preflight.proofs.Parts.{AreOne, are_one}
use Rattle.preflight.proofs.Passing.{all_contained}
use Rattle.page_machine.specs.Reached.{UnsetIsRead}
use Rattle.preflight.proofs.FoundSays.{found_says}
use Rattle.preflight.proofs.DiffersSays.{differs_says}
use Rattle.preflight.proofs.OfFleets.{of_printer}

module _ (anywhere : (printer : Printer) (reading : Reading) → IsWatchedAlike printer reading)
    (plainly : (printer : Printer) (panel : Panel) (reading : Reading) → RunsPlainly printer (watched printer) panel reading)
    (unset : (printer : Printer) (panel : Panel) (reading : Reading) → UnsetIsRead printer (watched printer) panel reading) where
  wrong_says : (fleet : List Printer) (reading : Reading) (w : Wrong) → first_wrong (runs_of fleet reading) ≡ Some w →
      FailSays fleet reading w.place w.profile w.reason
  wrong_says fleet reading w e =
      let runs = runs_of fleet reading in
      elim (in_either w (of_each findings_in 1 runs) (of_each (differences_in (first_run runs)) 1 runs) (soonest_in w _ e)) [
        | inl found ↦ found_says anywhere plainly unset fleet reading w e (of_printer findings_in reading 1 fleet w found)
        | inr differs ↦
            differs_says anywhere plainly fleet reading w e (of_printer (differences_in (first_run runs)) reading 1 fleet w differs)
      ]

  -- ---- a fault of the bytes

  finds_nothing : (fleet : List Printer) (reading : Reading) → AreOne reading fleet →
      FindsNothing fleet reading (events_by_item (first_run (runs_of fleet reading)))
  finds_nothing fleet reading one printer has panel allowed =
      let first : List ItemRun = first_run (runs_of fleet reading) in
      let its : watched_items printer reading ≡ first = all_contained (λ p. watched_items p reading ≡ first) fleet printer one.one has in
      let none : finding_of (watched_run printer panel reading).items ≡ None =
      ap finding_of (same_items anywhere plainly printer panel reading allowed ∙ its) ∙ no_finding first one.agreed in
      let plain : (plain_run printer panel reading).items ≡ first =
      plain_items anywhere plainly printer panel reading allowed
      (set_of (watched_run printer panel reading).ending (ends_without printer (watched printer) panel reading none))
      ∙ its in
      (ap finding_of plain ∙ no_finding first one.agreed, none, ap events_by_item plain)

  fail_is : (a b c d : ℕ) (x y : Reason) → Fail a b x ≡ Fail c d y → (a ≡ c) × (b ≡ d) × (x ≡ y)
  fail_is a b c d x y e = (cc, cc, cc)

  pub fail_says : (fleet : List Printer) (reading : Reading) (place number : ℕ) (reason : Reason) →
      verdict_of fleet reading ≡ Fail place number reason → FailSays fleet reading place number reason
  fail_says fleet reading place number reason e = by (first_wrong (runs_of fleet reading)) refl reading refl e
    where
      by : (o : Option Wrong) → first_wrong (runs_of fleet reading) ≡ o → (read : Reading) → read ≡ reading →
          verdict_by o read (events_of (first_run (runs_of fleet reading))) ≡ Fail place number reason →
          FailSays fleet reading place number reason
      by (Some w) is read same e =
          let h = fail_is w.place w.profile place number w.reason reason e in
          subst (λ r. FailSays fleet reading place number r) h.2
          (subst (λ n. FailSays fleet reading place n w.reason) h.1
          (subst (λ p. FailSays fleet reading p w.profile w.reason) h.0 (wrong_says fleet reading w is)))
      by None is (Whole items at) same e = absurd cc
      by None is (Stopped items at cause) same e =
          let h = fail_is at 0 place number (Fault cause) reason e in
          subst (λ r. FailSays fleet reading place number r) h.2 (
            sym h.1,
            (items, sym same ∙ ap (λ here. Stopped items here cause) h.0),
            (events_by_item (first_run (runs_of fleet reading)), finds_nothing fleet reading (are_one reading fleet is)),
          )
