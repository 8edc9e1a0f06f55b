-- What the relations of two jobs have to do with each other.
use Rattle.std.proofs.Common.{◌≡◌, ◌+◌, ◌==◌, ℕ, Bool, true, false, List, [], ◌∷◌, ◌++◌, Option, None, Some, ap, append-nil}
use Rattle.std.proofs.Common.{append_assoc, arith, cond, count_by, if◌then◌else◌, length, map, refl, sym, ◌∙◌}
use Rattle.std.specs.List.{AllByRecursion}
use Rattle.std.proofs.lemmas.Bool.{eqb-true, eq-eqb, false≢true}
use Rattle.std.proofs.lemmas.List.{map-append}
use Rattle.std.proofs.lemmas.List.Sums.{sum_by-append}
use Rattle.pcl_lexer.specs.Reading.{Reading}
use Rattle.device_profile.specs.declared.panel.Panel.{Panel}
use Rattle.device_profile.specs.Printer.{Printer}
use Rattle.page_env.specs.declared.mark.PageEnd.{PageEnd}
use Rattle.page_env.specs.Mark.{Shape}
use Rattle.page_machine.specs.Event.{Event, Marked, Ended}
use Rattle.page_machine.specs.Job.{plain_run}
use Rattle.sinks.specs.Counts.{capped, no_counts}
use Rattle.sinks.specs.declared.counts.Counts.{Counts}
use Rattle.verdict.specs.declared.failure.Failure.{Failure}
use Rattle.comparison.specs.declared.difference.Comparison.{Comparison}
use Rattle.comparison.specs.declared.difference.Comparison.TheVariants.{Same, OldFails, NewFails}
use Rattle.comparison.specs.Comparing.{events_made, spot_behind}
use Rattle.comparison.specs.Comparison.{Made, all_made, at_start, compared, end_of, failure_on}
use Rattle.comparison.specs.Comparison as flat
use Rattle.comparison.proofs.Sameness.{compared_same, event_same, same_event}
use Rattle.comparison.proofs.SoFar.{compared_behind}
use Rattle.page_comparison.specs.declared.differences.Most.{Most}
use Rattle.page_comparison.specs.declared.differences.Nearness.{Nearness}
use Rattle.page_comparison.specs.declared.differences.PageDifference.{PageDifference}
use Rattle.page_comparison.specs.declared.setting.Setting.{Setting}
use Rattle.page_comparison.specs.AnyOrder.{stand_at}
use Rattle.page_comparison.specs.Comparison.{SamePages, ToldPages, are_same_ends, by_page, comparison_from, differing_pairs, differs}
use Rattle.page_comparison.specs.Comparison.{NewFailing, OldFailing, OtherPages, end_change, ends_compared, failing_or, listing_of}
use Rattle.page_comparison.specs.Comparison.{marks_compared, pages_compared, pairs_of, setting_of}
use Rattle.page_comparison.specs.Laws.{AreSame, IsExact, IsSameAsItself, NeedsNoOrder, near_by}
use Rattle.page_comparison.specs.Pages.{MadeMark, MadePage, by_event, last_page, no_page, paired, pages_counted, pages_from, pages_of}
use Rattle.page_comparison.specs.Pages.{shapes_of}
use Rattle.page_comparison.specs.Told.{difference_at}
use Rattle.page_comparison.proofs.Alike.{all_near, near_in_any_order, near_in_order, near_shapes, order_tells, shapes_near}

-- ---- no page differs

abbrev AllEmpty : List (List PageDifference) → Type 0
AllEmpty pages = AllByRecursion (λ (page : List PageDifference). page ≡ []) pages

count_cons : (page : List PageDifference) (pages : List (List PageDifference)) →
    count_by differs (page ∷ pages) ≡ cond (differs page) 1 0 + count_by differs pages
count_cons page pages =
    let one : 0 + cond (differs page) 1 0 ≡ cond (differs page) 1 0 = omega arith in
    sum_by-append (λ x. cond (differs x) 1 0) (page ∷ []) pages ∙ ap (λ n. n + count_by differs pages) one

count_none : (pages : List (List PageDifference)) → count_by differs pages ≡ 0 → AllEmpty pages
count_none [] e = tt
count_none ([] ∷ pages) e =
    let counted = count_cons [] pages in
    let rest : count_by differs pages ≡ 0 = omega (arith, counted, e) in (refl, count_none pages rest)
count_none ((d ∷ ds) ∷ pages) e = let counted = count_cons (d ∷ ds) pages in absurd (omega (arith, counted, e))

none_count : (pages : List (List PageDifference)) → AllEmpty pages → count_by differs pages ≡ 0
none_count [] h = refl
none_count (page ∷ pages) h =
    let counted : count_by differs (page ∷ pages) ≡ 0 + count_by differs pages =
    count_cons page pages ∙ ap (λ (p : List PageDifference). cond (differs p) 1 0 + count_by differs pages) h.0 in
    let rest = none_count pages h.1 in omega (arith, counted, rest)

module _ (nearness : Nearness) (most : Most) (pairs : List (MadePage × MadePage)) where
  abbrev counted : ℕ
  counted = capped (count_by differs (by_page nearness 1 pairs))

  same_none : (counts : Counts) → pages_compared nearness most pairs ≡ SamePages counts → AllEmpty (by_page nearness 1 pairs)
  same_none counts e = by_test (counted == 0) refl e
    where
      by_test : (t : Bool) → (counted == 0) ≡ t →
          (if t then SamePages (pages_counted pairs no_counts)
          else OtherPages (listing_of most (by_page nearness 1 pairs) (differing_pairs nearness 1 pairs)))
          ≡ SamePages counts → AllEmpty (by_page nearness 1 pairs)
      by_test true is h =
          let none : counted ≡ 0 = eqb-true counted 0 is in
          let none_counted : count_by differs (by_page nearness 1 pairs) ≡ 0 = omega (arith, none) in
          count_none (by_page nearness 1 pairs) none_counted
      by_test false is h = absurd cc

  none_same : AllEmpty (by_page nearness 1 pairs) → pages_compared nearness most pairs ≡ SamePages (pages_counted pairs no_counts)
  none_same h =
      let none_counted = none_count (by_page nearness 1 pairs) h in
      let none : counted ≡ 0 = omega (arith, none_counted) in
      ap
      (λ (t : Bool). if t then SamePages (pages_counted pairs no_counts)
      else OtherPages (listing_of most (by_page nearness 1 pairs) (differing_pairs nearness 1 pairs)))
      (eq-eqb counted 0 none)

-- ---- one page

appended_none : {X : Type 0} (xs ys : List X) → xs ++ ys ≡ [] → (xs ≡ []) × (ys ≡ [])
appended_none [] ys e = (refl, e)
appended_none (x ∷ xs) ys e = absurd cc

ends_tell : (page : ℕ) (a b : MadePage) → ends_compared page a b ≡ [] → are_same_ends a.end b.end ≡ true
ends_tell page a b e = by_test (are_same_ends a.end b.end) refl e
  where
    by_test : (t : Bool) → are_same_ends a.end b.end ≡ t →
        (if t then []
        else difference_at (stand_at page (length a.marks + 1) (length b.marks + 1)) a.place b.place (end_change a.end b.end) ∷ [])
        ≡ [] →
        are_same_ends a.end b.end ≡ true
    by_test true is h = is
    by_test false is h = absurd cc

same_ends_tell_none : (page : ℕ) (a b : MadePage) → are_same_ends a.end b.end ≡ true → ends_compared page a b ≡ []
same_ends_tell_none page a b is =
    ap
    (λ (t : Bool). if t then []
    else difference_at (stand_at page (length a.marks + 1) (length b.marks + 1)) a.place b.place (end_change a.end b.end) ∷ [])
    is

-- two pages are near in their order
abbrev IsNearPair : ℕ → MadePage × MadePage → Type 0
IsNearPair within pair = (all_near within pair.0.marks pair.1.marks ≡ true) × (are_same_ends pair.0.end pair.1.end ≡ true)

abbrev AreNear : ℕ → List (MadePage × MadePage) → Type 0
AreNear within pairs = AllByRecursion (IsNearPair within) pairs

none_near : (within page : ℕ) (pairs : List (MadePage × MadePage)) → AllEmpty (by_page (near_by false within) page pairs) →
    AreNear within pairs
none_near within page [] h = tt
none_near within page (pair ∷ pairs) h =
    let setting : Setting = setting_of (near_by false within) page pair.0 pair.1 in
    let parts =
    appended_none (marks_compared false setting pair.0.marks pair.1.marks) (ends_compared page pair.0 pair.1) h.0 in (
      (order_tells setting pair.0.marks pair.1.marks parts.0, ends_tell page pair.0 pair.1 parts.1),
      none_near within (page + 1) pairs h.1,
    )

near_none : (near : Nearness) (page : ℕ) (pairs : List (MadePage × MadePage)) → AreNear near.within pairs →
    AllEmpty (by_page near page pairs)
near_none near page [] h = tt
near_none near page (pair ∷ pairs) h = (
  (λ i. marks_none near.any_order i ++ same_ends_tell_none page pair.0 pair.1 h.0.1 i),
  near_none near (page + 1) pairs h.1,
)
  where
    marks_none : (t : Bool) → marks_compared t (setting_of near page pair.0 pair.1) pair.0.marks pair.1.marks ≡ []
    marks_none true = near_in_any_order (setting_of near page pair.0 pair.1) pair.0.marks pair.1.marks h.0.0
    marks_none false = near_in_order (setting_of near page pair.0 pair.1) pair.0.marks pair.1.marks h.0.0

-- ---- pages and events

abbrev end_events : Option PageEnd → List Event
end_events None = []
end_events (Some values) = Ended values ∷ []

abbrev page_events : MadePage → List Event
page_events page = map Marked (shapes_of page.marks) ++ end_events page.end

abbrev all_events : List MadePage → List Event
all_events [] = []
all_events (page ∷ pages) = page_events page ++ all_events pages

last_events : (end : ℕ) (marks : List MadeMark) → all_events (last_page end marks) ≡ map Marked (shapes_of marks)
last_events end [] = refl
last_events end (mark ∷ marks) =
    append-nil (map Marked (shapes_of (mark ∷ marks)) ++ []) ∙ append-nil (map Marked (shapes_of (mark ∷ marks)))

pages_events : (end : ℕ) (marks : List MadeMark) (made : List Made) →
    all_events (pages_from end marks made) ≡ map Marked (shapes_of marks) ++ events_made made
pages_events end marks [] = last_events end marks ∙ sym (append-nil (map Marked (shapes_of marks)))
pages_events end marks (made ∷ rest) = by_kind (λ l. pages_events end l rest) made.event
  where
    by_kind : ((l : List MadeMark) → all_events (pages_from end l rest) ≡ map Marked (shapes_of l) ++ events_made rest) →
        (event : Event) →
        all_events (pages_from end marks (record { place = made.place; event = event } ∷ rest))
        ≡ map Marked (shapes_of marks) ++ event ∷ events_made rest
    by_kind later (Marked shape) =
        let mark : MadeMark = record { place = made.place; shape = shape } in
        later (marks ++ mark ∷ [])
        ∙ (ap (λ l. map Marked l ++ events_made rest) (map-append (λ (m : MadeMark). m.shape) marks (mark ∷ []))
        ∙ (ap (λ l. l ++ events_made rest) (map-append Marked (shapes_of marks) (shape ∷ []))
        ∙ append_assoc (map Marked (shapes_of marks)) (Marked shape ∷ []) (events_made rest)))
    by_kind later (Ended values) =
        ap (λ l. (map Marked (shapes_of marks) ++ Ended values ∷ []) ++ l) (later [])
        ∙ append_assoc (map Marked (shapes_of marks)) (Ended values ∷ []) (events_made rest)

same_ends : (a b : Option PageEnd) → are_same_ends a b ≡ true → end_events a ≡ end_events b
same_ends None None h = refl
same_ends None (Some b) h = absurd (false≢true h)
same_ends (Some a) None h = absurd (false≢true h)
same_ends (Some a) (Some b) h = ap (λ e. e ∷ []) (same_event (Ended a) (Ended b) h)

near_page : (a b : MadePage) → IsNearPair 0 (a, b) → page_events a ≡ page_events b
near_page a b h = λ i. map Marked (near_shapes a.marks b.marks h.0 i) ++ same_ends a.end b.end h.1 i

module _ (old_end new_end : ℕ) where
  near_missing_old : (new : List MadePage) → AreNear 0 (map (λ page. (no_page old_end, page)) new) → [] ≡ all_events new
  near_missing_old [] h = refl
  near_missing_old (b ∷ new) h =
      λ i. near_page (no_page old_end) b h.0 i ++ near_missing_old new h.1 i

  near_missing_new : (old : List MadePage) → AreNear 0 (map (λ page. (page, no_page new_end)) old) → all_events old ≡ []
  near_missing_new [] h = refl
  near_missing_new (a ∷ old) h =
      λ i. near_page a (no_page new_end) h.0 i ++ near_missing_new old h.1 i

  near_events : (old new : List MadePage) → AreNear 0 (paired old_end new_end old new) → all_events old ≡ all_events new
  near_events [] new h = near_missing_old new h
  near_events (a ∷ old) [] h = near_missing_new (a ∷ old) h
  near_events (a ∷ old) (b ∷ new) h = λ i. near_page a b h.0 i ++ near_events old new h.1 i

-- ---- pages of the same events

-- the shapes of a page, and how it ends
abbrev View : Type 0
View = List Shape × Option PageEnd

abbrev view : MadePage → View
view page = (shapes_of page.marks, page.end)

abbrev last_view : List Shape → List View
last_view [] = []
last_view (shape ∷ shapes) = (shape ∷ shapes, None) ∷ []

abbrev views : List Shape → List Event → List View
views shapes [] = last_view shapes
views shapes (event ∷ rest) =
    by_event (λ shape. views (shapes ++ shape ∷ []) rest) (λ values. (shapes, Some values) ∷ views [] rest) event

last_views : (end : ℕ) (marks : List MadeMark) → map view (last_page end marks) ≡ last_view (shapes_of marks)
last_views end [] = refl
last_views end (mark ∷ marks) = refl

page_views : (end : ℕ) (marks : List MadeMark) (made : List Made) →
    map view (pages_from end marks made) ≡ views (shapes_of marks) (events_made made)
page_views end marks [] = last_views end marks
page_views end marks (made ∷ rest) = by_kind (λ l. page_views end l rest) made.event
  where
    by_kind : ((l : List MadeMark) → map view (pages_from end l rest) ≡ views (shapes_of l) (events_made rest)) →
        (event : Event) →
        map view (pages_from end marks (record { place = made.place; event = event } ∷ rest))
        ≡ views (shapes_of marks) (event ∷ events_made rest)
    by_kind later (Marked shape) =
        let mark : MadeMark = record { place = made.place; shape = shape } in
        later (marks ++ mark ∷ [])
        ∙ ap (λ l. views l (events_made rest)) (map-append (λ (m : MadeMark). m.shape) marks (mark ∷ []))
    by_kind later (Ended values) = ap (λ l. (shapes_of marks, Some values) ∷ l) (later [])

ends_same : (a b : Option PageEnd) → a ≡ b → are_same_ends a b ≡ true
ends_same None None e = refl
ends_same None (Some b) e = absurd cc
ends_same (Some a) None e = absurd cc
ends_same (Some a) (Some b) e = let same : a ≡ b = cc in event_same (Ended a) (Ended b) (ap Ended same)

views_near : (within old_end new_end : ℕ) (old new : List MadePage) → map view old ≡ map view new →
    AreNear within (paired old_end new_end old new)
views_near within old_end new_end [] [] e = tt
views_near within old_end new_end [] (b ∷ new) e = absurd cc
views_near within old_end new_end (a ∷ old) [] e = absurd cc
views_near within old_end new_end (a ∷ old) (b ∷ new) e =
    let first : view a ≡ view b = cc in
    let rest : map view old ≡ map view new = cc in (
      (
        shapes_near within a.marks b.marks (ap (λ (v : View). v.0) first),
        ends_same a.end b.end (ap (λ (v : View). v.1) first),
      ),
      views_near within old_end new_end old new rest,
    )

-- ---- whole jobs

passes : (fails : Failure → ToldPages) (failure : Option Failure) (otherwise : ToldPages) (counts : Counts) →
    ((f : Failure) → fails f ≡ SamePages counts → ⊥) → failing_or fails failure otherwise ≡ SamePages counts →
    (failure ≡ None) × (otherwise ≡ SamePages counts)
passes fails None otherwise counts never h = (refl, h)
passes fails (Some failure) otherwise counts never h = absurd (never failure h)

passes_flat : (fails : Failure → Comparison) (failure : Option Failure) (otherwise : Comparison) (counts : Counts) →
    ((f : Failure) → fails f ≡ Same counts → ⊥) → flat.failing_or fails failure otherwise ≡ Same counts →
    (failure ≡ None) × (otherwise ≡ Same counts)
passes_flat fails None otherwise counts never h = (refl, h)
passes_flat fails (Some failure) otherwise counts never h = absurd (never failure h)

module _ (most : Most) (number : ℕ) (printer : Printer) (panel : Panel) (old new : Reading) where
  abbrev old_made : List Made
  old_made = all_made (plain_run printer panel old).items

  abbrev new_made : List Made
  new_made = all_made (plain_run printer panel new).items

  abbrev old_failure : Option Failure
  old_failure = failure_on number (plain_run printer panel old).items old

  abbrev new_failure : Option Failure
  new_failure = failure_on number (plain_run printer panel new).items new

  abbrev pairs : List (MadePage × MadePage)
  pairs = pairs_of old new (plain_run printer panel old).items (plain_run printer panel new).items

  -- neither fails, and no page differs
  told_same : (near : Nearness) → AreSame near most number printer panel old new →
      (old_failure ≡ None) × (new_failure ≡ None) × AllEmpty (by_page near 1 pairs)
  told_same near same =
      let counts = same.0 in
      let of_new = failing_or NewFailing new_failure (pages_compared near most pairs) in
      let first = passes OldFailing old_failure of_new counts (λ f e. cc) same.1 in
      let second = passes NewFailing new_failure (pages_compared near most pairs) counts (λ f e. cc) first.1 in
      (first.0, second.0, same_none near most pairs counts second.1)

  same_told : (near : Nearness) → old_failure ≡ None → new_failure ≡ None → AllEmpty (by_page near 1 pairs) →
      AreSame near most number printer panel old new
  same_told near old_none new_none h = (
    pages_counted pairs no_counts,
    ap (λ o. failing_or OldFailing o (failing_or NewFailing new_failure (pages_compared near most pairs))) old_none
        ∙ (ap (λ o. failing_or NewFailing o (pages_compared near most pairs)) new_none
        ∙ none_same near most pairs h),
  )

  flat_told : (counts : Counts) → flat.comparison_from number printer panel old new ≡ Same counts →
      (old_failure ≡ None) × (new_failure ≡ None) × (events_made old_made ≡ events_made new_made)
  flat_told counts e =
      let events = compared at_start (end_of old) (end_of new) old_made new_made in
      let of_new = flat.failing_or NewFails new_failure events in
      let first = passes_flat OldFails old_failure of_new counts (λ f h. cc) e in
      let second = passes_flat NewFails new_failure events counts (λ f h. cc) first.1 in
      (first.0, second.0, compared_same at_start (end_of old) (end_of new) old_made new_made counts second.1)

  flat_same : old_failure ≡ None → new_failure ≡ None → events_made old_made ≡ events_made new_made →
      (counts : Counts) × (flat.comparison_from number printer panel old new ≡ Same counts)
  flat_same old_none new_none e =
      let events = compared at_start (end_of old) (end_of new) old_made new_made in (
        (spot_behind (events_made old_made) at_start).counts,
        ap (λ o. flat.failing_or OldFails o (flat.failing_or NewFails new_failure events)) old_none
            ∙ (ap (λ o. flat.failing_or NewFails o events) new_none
            ∙ ((λ i. compared at_start (end_of old) (end_of new) (sym (append-nil old_made) i) (sym (append-nil new_made) i))
            ∙ compared_behind at_start (end_of old) (end_of new) old_made new_made [] [] e)),
      )

  events_near : (within : ℕ) → events_made old_made ≡ events_made new_made → AreNear within pairs
  events_near within e =
      views_near within (end_of old) (end_of new) (pages_of (end_of old) old_made) (pages_of (end_of new) new_made)
      (page_views (end_of old) [] old_made ∙ (ap (views []) e ∙ sym (page_views (end_of new) [] new_made)))

  near_made : AreNear 0 pairs → events_made old_made ≡ events_made new_made
  near_made h =
      sym (pages_events (end_of old) [] old_made)
      ∙ (near_events (end_of old) (end_of new) (pages_of (end_of old) old_made) (pages_of (end_of new) new_made) h
      ∙ pages_events (end_of new) [] new_made)

  pub is_exact : IsExact most number printer panel old new
  is_exact = (
    λ same.
        let told = told_same (near_by false 0) same in
        flat_same told.0 told.1 (near_made (none_near 0 1 pairs told.2)),
    λ same.
        let told = flat_told same.0 same.1 in
        same_told (near_by false 0) told.0 told.1
        (near_none (near_by false 0) 1 pairs (events_near 0 told.2)),
  )

  pub needs_no_order : (within : ℕ) → NeedsNoOrder within most number printer panel old new
  needs_no_order within same =
      let told = told_same (near_by false within) same in
      same_told (near_by true within) told.0 told.1 (near_none (near_by true within) 1 pairs (none_near within 1 pairs told.2))

pub is_same_as_itself : (near : Nearness) (most : Most) (number : ℕ) (printer : Printer) (panel : Panel) (job : Reading) →
    IsSameAsItself near most number printer panel job
is_same_as_itself near most number printer panel job counts e =
    let told = flat_told most number printer panel job job counts e in
    same_told most number printer panel job job near told.0 told.1
    (near_none near 1 (pairs most number printer panel job job)
    (events_near most number printer panel job job near.within refl))
