-- What a finding says of the printers of a fleet.
use Rattle.std.proofs.Common.{◌≡◌, ◌+◌, ◌<◌, ◌≤◌, ℕ, suc, zero, List, [], ◌∷◌, ◌++◌, length, Some, refl, ap, sym, ◌∙◌, subst, arith}
use Rattle.std.specs.List.{AllByRecursion, Contains}
use Rattle.pcl_lexer.specs.Reading.{Reading}
use Rattle.device_profile.specs.declared.panel.Panel.{Panel}
use Rattle.device_profile.specs.Printer.{Printer, IsAllowed, first_panel}
use Rattle.page_env.specs.declared.finding.Finding.{Finding}
use Rattle.page_env.specs.Settings.{watched}
use Rattle.page_machine.specs.Event.{Event}
use Rattle.page_machine.specs.Job.{ItemRun, plain_run, watched_run}
use Rattle.page_machine.specs.Laws.{IsSet, IsWatchedAlike, RunsPlainly}
use Rattle.judgement.specs.Wrong.{Wrong, findings_in, differences_in, of_each, first_run, first_wrong}
use Rattle.judgement.specs.Verdict.{watched_items, runs_of}
use Rattle.judgement.specs.Failing.{BothGoOn, BothGoThrough, IsNumbered, GoesThrough, events_before, events_behind, SaysUnset, FailSays}
use Rattle.preflight.proofs.Soonest.{IsIn, in_left, in_right, least}
use Rattle.preflight.proofs.Found.{IsItsFinding, its_finding, finding_behind, comes_behind, goes_on}
use Rattle.preflight.proofs.RunEnds.{halts_there}
use Rattle.preflight.proofs.Differing.{HasItem, HasMore, comes_through, goes_plainly, same_before, same_there, more_through}
use Rattle.preflight.proofs.FirstPanels.{same_items, plain_items}
use Rattle.preflight.proofs.Passing.{all_contained}
use Rattle.device_profile.specs.declared.field.Field.{Field}
use Rattle.page_env.specs.declared.finding.Finding.TheVariants.{Unset}
use Rattle.page_machine.specs.Reached.{FindsBehind, UnsetIsRead}
use Rattle.preflight.proofs.Chosen.{choose}
use Rattle.preflight.proofs.OfFleets.{IsOf, IsCounted, all_counted, all_split, first_is, later_with_lower}

-- a run that goes through an item, or finds something there, has it
through_has : (n place : ℕ) (items : List ItemRun) → GoesThrough n place items → HasItem n place items
through_has n place [] h = absurd h
through_has zero place (x ∷ items) h = h.1
through_has (suc n) place (x ∷ items) h = through_has n place items h.1

finds_has : (n place : ℕ) (finding : Finding) (items : List ItemRun) → FindsBehind n place finding items → HasItem n place items
finds_has n place finding [] h = absurd h
finds_has zero place finding (x ∷ items) h = h.1
finds_has (suc n) place finding (x ∷ items) h = finds_has n place finding items h.1

rest_is : (a b : List Event) (xs ys : List (List Event)) → b ∷ ys ≡ a ∷ xs → ys ≡ xs
rest_is a b xs ys e = cc

head_is : (a b : List Event) (xs ys : List (List Event)) → b ∷ ys ≡ a ∷ xs → b ≡ a
head_is a b xs ys e = cc

-- the events of so many items and one more
one_more : (n : ℕ) (xs ys : List ItemRun) → HasMore n xs → HasMore n ys → events_before n ys ≡ events_before n xs →
    events_behind n ys ≡ events_behind n xs → events_before (suc n) ys ≡ events_before (suc n) xs
one_more n [] ys h k before there = absurd h
one_more n (x ∷ xs) [] h k before there = absurd k
one_more zero (x ∷ xs) (y ∷ ys) h k before there = ap (λ events. events ∷ []) there
one_more (suc n) (x ∷ xs) (y ∷ ys) h k before there =
    ap (λ events. events ∷ events_before (suc n) ys) (head_is x.events y.events (events_before n xs) (events_before n ys) before)
    ∙ ap (λ rest. x.events ∷ rest) (one_more n xs ys h k (rest_is x.events y.events (events_before n xs) (events_before n ys) before) there)

module _ (anywhere : (printer : Printer) (reading : Reading) → IsWatchedAlike printer reading)
    (plainly : (printer : Printer) (panel : Panel) (reading : Reading) → RunsPlainly printer (watched printer) panel reading)
    (unset : (printer : Printer) (panel : Panel) (reading : Reading) → UnsetIsRead printer (watched printer) panel reading)
    (fleet : List Printer) (reading : Reading) (w : Wrong) (soon : first_wrong (runs_of fleet reading) ≡ Some w)
    (of : IsOf findings_in reading 1 fleet w) where
  abbrev first_items : List ItemRun
  first_items = first_run (runs_of fleet reading)

  abbrev differs : ℕ → ℕ → List ItemRun → List Wrong
  differs = differences_in first_items

  abbrev found : List Wrong
  found = of_each findings_in 1 (runs_of fleet reading)

  abbrev differing : List Wrong
  differing = of_each differs 1 (runs_of fleet reading)

  abbrev its : IsItsFinding (1 + length of.printers_before) 0 (watched_items of.printer reading) w
  its = its_finding (1 + length of.printers_before) 0 (watched_items of.printer reading) w of.is_in

  -- nothing is found sooner, and no printer differs sooner
  found_no_sooner : (v : Wrong) → IsIn v found → its.count ≤ v.count_before
  found_no_sooner v has = omega (arith, its.before_is, least w v (found ++ differing) soon (in_left v found differing has))

  differs_no_sooner : (v : Wrong) → IsIn v differing → its.count ≤ v.count_before
  differs_no_sooner v has = omega (arith, its.before_is, least w v (found ++ differing) soon (in_right v found differing has))

  all_found : AllByRecursion (IsCounted findings_in found reading) fleet
  all_found = all_counted findings_in found reading 1 fleet (λ v h. h)

  all_differences : AllByRecursion (IsCounted differs differing reading) fleet
  all_differences = all_counted differs differing reading 1 fleet (λ v h. h)

  -- ---- before the item

  goes_there : (each : Printer) → IsCounted findings_in found reading each → (n at : ℕ) → HasItem n at (watched_items of.printer reading) →
      n < its.count → GoesThrough n at (watched_items each reading)
  goes_there each counted n at has less =
      comes_through each of.printer reading counted.0 n at has (λ v h. omega (arith, less, found_no_sooner v (counted.1 v h)))

  counted_at : (number : ℕ) (each : Printer) → IsNumbered fleet number each → IsCounted findings_in found reading each
  counted_at number each at =
      all_split (IsCounted findings_in found reading) at.printers_before each at.after
      (subst (AllByRecursion (IsCounted findings_in found reading)) at.fleet_is all_found)

  first_has_more : (n at : ℕ) → HasItem n at (watched_items of.printer reading) → n < its.count → HasMore n first_items
  first_has_more n at has less = by of.printers_before refl
    where
      through : (each : Printer) → IsNumbered fleet 1 each → HasMore n first_items
      through each first =
          subst (HasMore n) (sym (first_is fleet reading each first))
          (more_through n at (watched_items each reading) (goes_there each (counted_at 1 each first) n at has less))

      by : (printers_before : List Printer) → of.printers_before ≡ printers_before → HasMore n first_items
      by [] is = through of.printer record {
        printers_before = [];
        after = of.after;
        fleet_is = of.fleet_is ∙ ap (λ front. front ++ of.printer ∷ of.after) is;
        number_is = omega arith;
      }
      by (x ∷ printers_before) is = through x record {
        printers_before = [];
        after = printers_before ++ of.printer ∷ of.after;
        fleet_is = of.fleet_is ∙ ap (λ front. front ++ of.printer ∷ of.after) is;
        number_is = omega arith;
      }

  -- a printer goes through so many items with the events of the first one
  abbrev ComesAlike : ℕ → Printer → Panel → Type 0
  ComesAlike count each panel =
      BothGoOn count each panel reading × (events_before count (plain_run each panel reading).items ≡ events_before count first_items)

  comes_alike : (each : Printer) → IsCounted findings_in found reading each → IsCounted differs differing reading each → (panel : Panel) →
      IsAllowed each panel → (count : ℕ) → count ≡ its.count → FindsBehind count w.place its.finding (watched_items of.printer reading) →
      ComesAlike count each panel
  comes_alike each counted others panel allowed zero is there = ((tt, tt), refl)
  comes_alike each counted others panel allowed (suc n) is there =
      let last = comes_behind n w.place its.finding (watched_items of.printer reading) there in
      let has = through_has n last.0 (watched_items of.printer reading) last.1 in
      let less : n < its.count = omega (arith, is) in
      let goes = goes_there each counted n last.0 has less in
      let more = more_through n last.0 (watched_items each reading) goes in
      let first_more = first_has_more n last.0 has less in
      let same = same_items anywhere plainly each panel reading allowed in
      let watched_goes = subst (GoesThrough n last.0) (sym same) goes in
      let plain = goes_plainly plainly each panel n last.0 reading watched_goes in (
        (
          goes_on n last.0 (plain_run each panel reading).items plain.0,
          goes_on n last.0 (watched_run each panel reading).items watched_goes,
        ),
        one_more n first_items (plain_run each panel reading).items first_more
            (more_through n last.0 (plain_run each panel reading).items plain.0)
            (plain.2
            ∙ (ap (events_before n) same
            ∙ same_before others.0 0 n first_items (watched_items each reading)
            (λ v h. omega (arith, less, differs_no_sooner v (others.1 v h))) first_more more))
            (plain.1
            ∙ (ap (events_behind n) same
            ∙ same_there others.0 0 n first_items (watched_items each reading)
            (λ v h. omega (arith, less, differs_no_sooner v (others.1 v h))) first_more more)),
      )

  each_alike : (each : Printer) → Contains fleet each → (panel : Panel) → IsAllowed each panel → ComesAlike its.count each panel
  each_alike each has panel allowed =
      comes_alike each (all_contained (IsCounted findings_in found reading) fleet each all_found has)
      (all_contained (IsCounted differs differing reading) fleet each all_differences has) panel allowed its.count refl its.there

  -- ---- at the item

  lower_through : (each : Printer) (lower : ℕ) → IsNumbered fleet lower each → lower < w.profile → (panel : Panel) → IsAllowed each panel →
      BothGoThrough its.count w.place each panel reading
  lower_through each lower at less panel allowed =
      let later =
      later_with_lower findings_in (λ n count_before items v h. (its_finding n count_before items v h).number_is) reading
      fleet w [] differing
      (λ h. h) soon each lower at less in
      let goes =
      comes_through each of.printer reading lower its.count w.place
      (finds_has its.count w.place its.finding (watched_items of.printer reading) its.there)
      (λ v h. omega (arith, later v h, its.before_is)) in
      let watched_goes = subst (GoesThrough its.count w.place) (sym (same_items anywhere plainly each panel reading allowed)) goes in
      ((goes_plainly plainly each panel its.count w.place reading watched_goes).0, watched_goes)

  there : (panel : Panel) → IsAllowed of.printer panel →
      FindsBehind its.count w.place its.finding (watched_run of.printer panel reading).items
  there panel allowed =
      subst (FindsBehind its.count w.place its.finding) (sym (same_items anywhere plainly of.printer panel reading allowed)) its.there

  says_unset : (field : Field) → its.finding ≡ Unset field → SaysUnset of.printer reading its.count w.place field
  says_unset field is = record {
    reads =
        λ panel allowed. (unset of.printer panel reading its.count w.place field
        (subst (λ f. FindsBehind its.count w.place f (watched_run of.printer panel reading).items) is (there panel allowed))).1;
    chosen =
        λ valid. choose of.printer field valid
        (unset of.printer (first_panel of.printer) reading its.count w.place field
        (subst (λ f. FindsBehind its.count w.place f (watched_items of.printer reading)) is its.there)).0;
  }

  pub found_says : FailSays fleet reading w.place w.profile w.reason
  found_says = subst (FailSays fleet reading w.place w.profile) (sym its.reason_is) record {
    printer = of.printer;
    is_numbered = record {
      printers_before = of.printers_before;
      after = of.after;
      fleet_is = of.fleet_is;
      number_is = omega (arith, its.number_is);
    };
    count_before = its.count;
    comes = λ each has panel allowed. (each_alike each has panel allowed).0;
    shared = events_before its.count first_items;
    alike = λ each has panel allowed. (each_alike each has panel allowed).1;
    lower = lower_through;
    watched = there;
    plain = λ set panel allowed.
        let run = watched_run of.printer panel reading in
        let ends =
        halts_there of.printer (watched of.printer) panel reading w.place its.finding
        (finding_behind its.count w.place its.finding run.items (there panel allowed)) in
        subst (FindsBehind its.count w.place its.finding)
        (sym (plain_items anywhere plainly of.printer panel reading allowed (subst IsSet (sym ends) set))) its.there;
    unset = says_unset;
  }
