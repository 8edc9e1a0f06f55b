-- Printers that leave nothing to their panels pass a job exactly where it runs clean on them.
use Rattle.std.proofs.Common.{◌≡◌, ◌+◌, ℕ, suc, cond, List, [], ◌∷◌, ◌++◌, Option, None, Some, refl, ap, sym, ◌∙◌, subst, arith, false}
use Rattle.std.proofs.Common.{length, ◌≤◌}
use Rattle.std.specs.List.{AllByRecursion, Contains}
use Rattle.std.proofs.lemmas.Bool.Decides.{nat_tests}
use Rattle.pcl_items.specs.Items.{Placed}
use Rattle.pcl_lexer.specs.Reading.{Reading, Whole}
use Rattle.device_profile.specs.declared.panel.Panel.{Panel}
use Rattle.device_profile.specs.Printer.{Printer, first_panel}
use Rattle.device_profile.specs.declared.field.Field.TheVariants as fields
use Rattle.page_env.specs.Settings.{Flags, has_choice, unwatched, watched}
use Rattle.page_machine.specs.Event.{Event}
use Rattle.page_machine.specs.Job.{ItemRun, JobRun, events_of, run_from, plain_run, watched_run}
use Rattle.page_machine.specs.Laws.{RunsPlainly}
use Rattle.page_machine.specs.Pages.{pages}
use Rattle.page_machine.specs.Run.{Done, Halts}
use Rattle.page_machine.specs.Pinning.{finding_of}
use Rattle.verdict.specs.declared.reason.Reason.TheVariants.{Differs}
use Rattle.verdict.specs.Failing.{IsPass}
use Rattle.judgement.specs.Wrong.{Wrong, wrong, findings_in, differences_in, of_each, first_run, first_wrong, soonest}
use Rattle.judgement.specs.Verdict.{watched_items, runs_of, verdict_by, verdict_of}
use Rattle.judgement.specs.Failing.{events_by_item}
use Rattle.promises.specs.Clean.{IsClean, LeavesNothing, AreClean, PassesWhereClean}
use Rattle.sinks.proofs.Same.{same_events}
use Rattle.preflight.proofs.Side.{Agreed, agreed_findings}
use Rattle.preflight.proofs.Passing.{all_contained}
use Rattle.preflight.proofs.Parts.{AreOne, are_one}
use Rattle.preflight.proofs.RunEnds.{IsCarriedOn, of_every_run, Ends, set_of, end_of, ends_without, no_finding}

-- ---- a run that comes to its end finds nothing

abbrev AgreesAtEnd : JobRun → Type 0
AgreesAtEnd r = Ends r.ending → Agreed r.items

agrees_carried : IsCarriedOn AgreesAtEnd
agrees_carried place events peaks (Done s) next rest ends = (refl, rest s ends)
agrees_carried place events peaks (Halts finding) next rest ends = absurd ends

agrees_at_end : (printer : Printer) (flags : Flags) (panel : Panel) (reading : Reading) → AgreesAtEnd (run_from printer flags panel reading)
agrees_at_end printer flags panel reading = of_every_run AgreesAtEnd agrees_carried (λ s ends. tt) printer flags panel reading

-- ---- runs with the same events item by item

same_none : (number n : ℕ) (xs ys : List ItemRun) → events_by_item ys ≡ events_by_item xs → differences_in xs number n ys ≡ []
same_none number n [] ys e = refl
same_none number n (x ∷ xs) [] e = refl
same_none number n (x ∷ xs) (y ∷ ys) e =
    let h = heads x.events y.events (events_by_item xs) (events_by_item ys) e in
    ap (λ same. cond same (differences_in xs number (n + 1) ys) (wrong n y.place number Differs ∷ []))
    (same_events x.events y.events (sym h.0))
    ∙ same_none number (n + 1) xs ys h.1
  where
    heads : (a b : List Event) (rest others : List (List Event)) → b ∷ others ≡ a ∷ rest → (b ≡ a) × (others ≡ rest)
    heads a b rest others e = (cc, cc)

-- a printer whose run has no finding and these events
abbrev GivesEvents : Reading → List (List Event) → Printer → Type 0
GivesEvents reading events printer = Agreed (watched_items printer reading) × (events_by_item (watched_items printer reading) ≡ events)

both_none : {X : Type 0} (xs ys : List X) → xs ≡ [] → ys ≡ [] → xs ++ ys ≡ []
both_none xs ys a b = ap (λ zs. zs ++ ys) a ∙ b

no_findings : (reading : Reading) (events : List (List Event)) (number : ℕ) (fleet : List Printer) →
    AllByRecursion (GivesEvents reading events) fleet → of_each findings_in number (runs_of fleet reading) ≡ []
no_findings reading events number [] h = refl
no_findings reading events number (p ∷ ps) h =
    both_none (findings_in number 0 (watched_items p reading)) (of_each findings_in (number + 1) (runs_of ps reading))
    (agreed_findings number 0 (watched_items p reading) h.0.0) (no_findings reading events (number + 1) ps h.1)

no_differences : (reading : Reading) (events : List (List Event)) (first : List ItemRun) → events_by_item first ≡ events → (number : ℕ)
    (fleet : List Printer) → AllByRecursion (GivesEvents reading events) fleet →
    of_each (differences_in first) number (runs_of fleet reading) ≡ []
no_differences reading events first is number [] h = refl
no_differences reading events first is number (p ∷ ps) h =
    both_none (differences_in first number 0 (watched_items p reading)) (of_each (differences_in first) (number + 1) (runs_of ps reading))
    (same_none number 0 first (watched_items p reading) (h.0.1 ∙ sym is)) (no_differences reading events first is (number + 1) ps h.1)

none_wrong : (reading : Reading) (events : List (List Event)) (fleet : List Printer) → AllByRecursion (GivesEvents reading events) fleet →
    first_wrong (runs_of fleet reading) ≡ None
none_wrong reading events [] h = refl
none_wrong reading events (p ∷ ps) h =
    let runs = runs_of (p ∷ ps) reading in
    ap soonest
    (both_none (of_each findings_in 1 runs) (of_each (differences_in (watched_items p reading)) 1 runs)
    (no_findings reading events 1 (p ∷ ps) h) (no_differences reading events (watched_items p reading) h.0.1 1 (p ∷ ps) h))

-- a printer that leaves nothing to its panel is not watched
one_value : (values : List ℕ) → length values ≤ 1 → has_choice values ≡ false
one_value values few = grind (arith, nat_tests)

not_watched : (printer : Printer) → LeavesNothing printer → watched printer ≡ unwatched
not_watched printer nothing = λ i. record {
  size = one_value printer.sizes (nothing fields.Size) i;
  orientation = one_value printer.orientations (nothing fields.Orientation) i;
  vmi = one_value printer.vmis (nothing fields.Vmi) i;
  font = one_value printer.fonts (nothing fields.Font) i;
  copies = one_value printer.copies (nothing fields.Copies) i;
  sides = one_value printer.sides (nothing fields.Sides) i;
  tray = one_value printer.panel_trays (nothing fields.Tray) i;
  line_termination = one_value printer.line_terminations (nothing fields.LineTerm) i;
}

-- what holds of each element that a list contains
all_of : {X : Type 0} (P : X → Type 0) (xs : List X) → ((x : X) → Contains xs x → P x) → AllByRecursion P xs
all_of P [] h = tt
all_of P (x ∷ xs) h = (h x (0, omega arith, refl), all_of P xs (λ y has. h y (suc has.0, omega (arith, has.1), has.2)))

-- ---- both ways

none_of_pass : (o : Option Wrong) (items : List Placed) (place : ℕ) (events : List Event) →
    IsPass (verdict_by o (Whole items place) events) → o ≡ None
none_of_pass None items place events h = refl
none_of_pass (Some w) items place events h = absurd h

module _ (plainly : (printer : Printer) (panel : Panel) (reading : Reading) → RunsPlainly printer (watched printer) panel reading)
    (fleet : List Printer) (items : List Placed) (place : ℕ) where
  abbrev whole : Reading
  whole = Whole items place

  passed_is_clean : IsPass (verdict_of fleet whole) → AreClean fleet items place
  passed_is_clean pass = record {
    printed = pages (events_of first);
    clean = is_clean;
    events = events_by_item first;
    alike = λ p has. ap events_by_item (its p has);
  }
    where
      first : List ItemRun
      first = first_run (runs_of fleet whole)

      one : AreOne whole fleet
      one = are_one whole fleet (none_of_pass (first_wrong (runs_of fleet whole)) items place (events_of first) pass)

      its : (p : Printer) → Contains fleet p → (plain_run p (first_panel p) whole).items ≡ first
      its p has =
          let same : watched_items p whole ≡ first = all_contained (λ q. watched_items q whole ≡ first) fleet p one.one has in
          let none : finding_of (watched_run p (first_panel p) whole).items ≡ None = ap finding_of same ∙ no_finding first one.agreed in
          ap (λ (r : JobRun). r.items)
          (plainly p (first_panel p) whole
          (set_of (watched_run p (first_panel p) whole).ending (ends_without p (watched p) (first_panel p) whole none)))
          ∙ same

      is_clean : (p : Printer) → Contains fleet p → IsClean p (first_panel p) items place (pages (events_of first))
      is_clean p has =
          let done =
          end_of (plain_run p (first_panel p) whole).ending
          (ends_without p unwatched (first_panel p) whole (ap finding_of (its p has) ∙ no_finding first one.agreed)) in
          record { end = done.0; is_done = done.1; prints = ap (λ run. pages (events_of run)) (its p has) }

  clean_passes : ((printer : Printer) → Contains fleet printer → LeavesNothing printer) → AreClean fleet items place →
      IsPass (verdict_of fleet whole)
  clean_passes nothing clean =
      let right = all_of (GivesEvents whole clean.events) fleet (λ p has.
      let same : (plain_run p (first_panel p) whole).items ≡ watched_items p whole =
      ap (λ flags. (run_from p flags (first_panel p) whole).items) (sym (not_watched p (nothing p has))) in
      let ends : Ends (plain_run p (first_panel p) whole).ending = subst Ends (sym (clean.clean p has).is_done) tt in
      (subst Agreed same (agrees_at_end p unwatched (first_panel p) whole ends), ap events_by_item (sym same) ∙ clean.alike p has)) in
      subst (λ o. IsPass (verdict_by o whole (events_of (first_run (runs_of fleet whole)))))
      (sym (none_wrong whole clean.events fleet right)) tt

  pub passes_where_clean : PassesWhereClean fleet items place
  passes_where_clean nothing = (passed_is_clean, clean_passes nothing)
