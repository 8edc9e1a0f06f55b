-- What a difference says of the printers of a fleet.
use Rattle.std.proofs.Common.{◌≡◌, ◌≢◌, ◌+◌, ◌<◌, ◌≤◌, inl, inr, ℕ, true, false, List, [], ◌∷◌, ◌++◌, length, Some, refl, ap, sym, ◌∙◌}
use Rattle.std.proofs.Common.{subst, arith}
use Rattle.std.specs.List.{AllByRecursion, Contains}
use Rattle.std.proofs.lemmas.Bool.{cases_lt}
use Rattle.pcl_lexer.specs.Reading.{Reading}
use Rattle.device_profile.specs.declared.panel.Panel.{Panel}
use Rattle.device_profile.specs.Printer.{Printer, IsAllowed}
use Rattle.page_env.specs.Settings.{watched}
use Rattle.page_machine.specs.Job.{ItemRun, plain_run}
use Rattle.page_machine.specs.Laws.{IsWatchedAlike, RunsPlainly}
use Rattle.sinks.specs.Same.{are_same}
use Rattle.judgement.specs.Wrong.{Wrong, findings_in, differences_in, of_each, first_run, first_wrong, soonest}
use Rattle.judgement.specs.Verdict.{watched_items, runs_of}
use Rattle.judgement.specs.Failing.{IsNumbered, GoesThrough, events_before, events_behind, SaysDiffers, FailSays}
use Rattle.preflight.proofs.Soonest.{IsIn, in_right, in_front, least}
use Rattle.sinks.proofs.Same.{same_events}
use Rattle.preflight.proofs.Differing.{IsDifference, its_difference, comes_through, goes_plainly, same_before, same_there, more_through}
use Rattle.preflight.proofs.FirstPanels.{same_items}
use Rattle.preflight.proofs.Side.{same_differences}
use Rattle.preflight.proofs.Passing.{all_contained}
use Rattle.std.proofs.lemmas.List.{append-nil}
use Rattle.preflight.proofs.OfFleets.{IsOf, none_differs, IsCounted, all_counted, all_split, first_is, later_with_lower}

module _ (anywhere : (printer : Printer) (reading : Reading) → IsWatchedAlike printer reading)
    (plainly : (printer : Printer) (panel : Panel) (reading : Reading) → RunsPlainly printer (watched printer) panel reading)
    (fleet : List Printer) (reading : Reading) (w : Wrong) (soon : first_wrong (runs_of fleet reading) ≡ Some w)
    (of : IsOf (differences_in (first_run (runs_of fleet reading))) reading 1 fleet w) where
  abbrev first_items : List ItemRun
  first_items = first_run (runs_of fleet reading)

  abbrev differs : ℕ → ℕ → List ItemRun → List Wrong
  differs = differences_in first_items

  abbrev found : List Wrong
  found = of_each findings_in 1 (runs_of fleet reading)

  abbrev differing : List Wrong
  differing = of_each differs 1 (runs_of fleet reading)

  abbrev its : IsDifference (1 + length of.printers_before) 0 first_items (watched_items of.printer reading) w
  its = its_difference (1 + length of.printers_before) 0 first_items (watched_items of.printer reading) w of.is_in

  abbrev numbered : IsNumbered fleet w.profile of.printer
  numbered = record {
    printers_before = of.printers_before;
    after = of.after;
    fleet_is = of.fleet_is;
    number_is = omega (arith, its.number_is);
  }

  -- what is found comes later, and no printer differs sooner
  found_later : (v : Wrong) → IsIn v found → its.count < v.count_before
  found_later v has =
      elim (cases_lt its.count v.count_before) [
        | inl later ↦ later
        | inr sooner ↦
            absurd
            (none_differs reading fleet w (in_front w v found differing soon has (omega (arith, sooner, its.before_is))) its.reason_is)
      ]

  no_sooner : (v : Wrong) → IsIn v differing → its.count ≤ v.count_before
  no_sooner v has = omega (arith, its.before_is, least w v (found ++ differing) soon (in_right v found differing has))

  -- a run of a printer of the fleet
  all_found : AllByRecursion (IsCounted findings_in found reading) fleet
  all_found = all_counted findings_in found reading 1 fleet (λ v h. h)

  all_differences : AllByRecursion (IsCounted differs differing reading) fleet
  all_differences = all_counted differs differing reading 1 fleet (λ v h. h)

  goes_there : (printer : Printer) → IsCounted findings_in found reading printer →
      GoesThrough its.count w.place (watched_items printer reading)
  goes_there printer counted =
      comes_through printer of.printer reading counted.0 its.count w.place its.has (λ v h. found_later v (counted.1 v h))

  from_any : (printer : Printer) → IsCounted findings_in found reading printer → (panel : Panel) → IsAllowed printer panel →
      GoesThrough its.count w.place (plain_run printer panel reading).items
      × (events_behind its.count (plain_run printer panel reading).items ≡ events_behind its.count (watched_items printer reading))
      × (events_before its.count (plain_run printer panel reading).items ≡ events_before its.count (watched_items printer reading))
  from_any printer counted panel allowed =
      let same = same_items anywhere plainly printer panel reading allowed in
      let goes =
      goes_plainly plainly printer panel its.count w.place reading
      (subst (GoesThrough its.count w.place) (sym same) (goes_there printer counted)) in
      (goes.0, goes.1 ∙ ap (events_behind its.count) same, goes.2 ∙ ap (events_before its.count) same)

  found_at_number : (number : ℕ) (printer : Printer) → IsNumbered fleet number printer → IsCounted findings_in found reading printer
  found_at_number number printer at =
      all_split (IsCounted findings_in found reading) at.printers_before printer at.after
      (subst (AllByRecursion (IsCounted findings_in found reading)) at.fleet_is all_found)

  -- before the item all give the same events
  alike_before : (each : Printer) → Contains fleet each → (panel : Panel) → IsAllowed each panel →
      events_before its.count (plain_run each panel reading).items ≡ events_before its.count first_items
  alike_before each has panel allowed =
      let counted = all_contained (IsCounted findings_in found reading) fleet each all_found has in
      let others = all_contained (IsCounted differs differing reading) fleet each all_differences has in
      (from_any each counted panel allowed).2
      ∙ same_before others.0 0 its.count first_items (watched_items each reading) (λ v h. omega (arith, no_sooner v (others.1 v h)))
      its.has_first (more_through its.count w.place (watched_items each reading) (goes_there each counted))

  -- printers of lower numbers differ later
  none_found : IsIn w found → ⊥
  none_found has = none_differs reading fleet w has its.reason_is

  soon_at_end : soonest (found ++ (differing ++ [])) ≡ Some w
  soon_at_end = ap (λ (l : List Wrong). soonest (found ++ l)) (append-nil differing) ∙ soon

  alike_there : (each : Printer) (lower : ℕ) → IsNumbered fleet lower each → lower < w.profile → (panel : Panel) → IsAllowed each panel →
      events_behind its.count (plain_run each panel reading).items ≡ events_behind its.count first_items
  alike_there each lower at less panel allowed =
      let counted = found_at_number lower each at in
      let later =
      later_with_lower differs (λ n count_before items v h. (its_difference n count_before first_items items v h).number_is)
      reading fleet w found
      [] none_found soon_at_end each lower at less in
      (from_any each counted panel allowed).1
      ∙ same_there lower 0 its.count first_items (watched_items each reading) (λ v h. omega (arith, later v h, its.before_is)) its.has_first
      (more_through its.count w.place (watched_items each reading) (goes_there each counted))

  -- the first printer does not differ from itself
  not_first : (printers_before : List Printer) → of.printers_before ≡ printers_before → 1 < w.profile
  not_first (x ∷ printers_before) is = omega (arith, its.number_is, ap length is)
  not_first [] is =
      let run : List ItemRun = watched_items of.printer reading in
      let at : IsNumbered fleet 1 of.printer = record {
        printers_before = [];
        after = of.after;
        fleet_is = of.fleet_is ∙ ap (λ front. front ++ of.printer ∷ of.after) is;
        number_is = omega arith;
      } in
      let here : IsIn w (differences_in run (1 + length of.printers_before) 0 run) =
      subst (λ first. IsIn w (differences_in first (1 + length of.printers_before) 0 run))
      (first_is fleet reading of.printer at) of.is_in in
      absurd (subst (IsIn w) (same_differences (1 + length of.printers_before) 0 run) here)

  other_events : (panel : Panel) → IsAllowed of.printer panel →
      events_behind its.count (plain_run of.printer panel reading).items ≢ events_behind its.count first_items
  other_events panel allowed same =
      let there = from_any of.printer (found_at_number w.profile of.printer numbered) panel allowed in
      let alike : are_same (events_behind its.count first_items) (events_behind its.count (watched_items of.printer reading)) ≡ true =
      same_events _ _ (sym (sym there.1 ∙ same)) in
      let both : true ≡ false = sym alike ∙ its.other in
      absurd cc

  says_differs : SaysDiffers fleet reading w.place w.profile
  says_differs = record {
    count_before = its.count;
    printer = of.printer;
    is_numbered = numbered;
    is_not_first = not_first of.printers_before refl;
    through = λ each has panel allowed.
        let counted = all_contained (IsCounted findings_in found reading) fleet each all_found has in (
          (from_any each counted panel allowed).0,
          subst (GoesThrough its.count w.place) (sym (same_items anywhere plainly each panel reading allowed))
              (goes_there each counted),
        );
    shared = events_before its.count first_items;
    alike = alike_before;
    events = events_behind its.count first_items;
    lower = alike_there;
    other = other_events;
  }

  pub differs_says : FailSays fleet reading w.place w.profile w.reason
  differs_says = subst (FailSays fleet reading w.place w.profile) (sym its.reason_is) says_differs
