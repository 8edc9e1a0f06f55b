-- The next event of a job that follows, and how it goes on.
use Rattle.std.proofs.Common.{◌≡◌, ◌<◌, ℕ, zero, suc, Bool, true, false, List, [], ◌∷◌, ◌++◌, length, map, drop}
use Rattle.std.proofs.Common.{Bor, Option, None, Some, option_copied, option_map, refl, ap, sym, ◌∙◌, subst, append-nil}
use Rattle.std.proofs.Common.{if◌then◌else◌}
use Rattle.std.specs.List.{slice_get}
use Rattle.std.specs.Slice.{IsItemAt}
use Rattle.std.proofs.lemmas.Bool.{false≢true}
use Rattle.std.proofs.lemmas.Option.{slice_get-map, slice_get_past, slice_get_read, slice_get_within}
use Rattle.device_profile.specs.declared.panel.Panel.{Panel}
use Rattle.device_profile.specs.Printer.{Printer}
use Rattle.page_machine.specs.Event.{Event}
use Rattle.sinks.specs.Same.{is_same_event}
use Rattle.streams.specs.Source.{SourceState}
use Rattle.comparison.specs.declared.difference.Comparison.TheVariants.{Differs}
use Rattle.comparison.specs.declared.difference.Spot.{Spot}
use Rattle.comparison.specs.Changes.{change_of, only_in_new, only_in_old}
use Rattle.comparison.specs.Comparison.{Made, behind_event, compared, difference_at, made_at}
use Rattle.comparison.specs.Comparing.{Following, FollowsOn, HasFollowed, IsNextDifference, difference_of, first_further}
use Rattle.comparison.specs.Comparing.{further_difference, lacks, lacks_next, next_of, still_made}
use Rattle.comparison.specs.Running.{HasRun, RunState, RunsOn, is_open}
use Rattle.comparison.proofs.Sameness.{same_event}

-- ---- an element of a list, as it is lent

copied_at : {X : Type 0} (xs : List X) (i : ℕ) (found : Option (Bor X)) → IsItemAt xs i found → option_copied found ≡ slice_get xs i
copied_at xs i None item = sym (slice_get_past xs i item.3)
copied_at xs i (Some x) item = sym (slice_get_read xs (length xs) i x.now refl item.3.0 item.1)

copied_by : {X Y : Type 0} (f : X → Y) (found : Option (Bor X)) →
    option_map (λ (x : Bor X). f x.now) found ≡ option_map f (option_copied found)
copied_by f None = refl
copied_by f (Some x) = refl

pub lent_at : {X Y : Type 0} (f : X → Y) (xs : List X) (ys : List Y) (i : ℕ) (found : Option (Bor X)) → IsItemAt xs i found →
    map f xs ≡ ys → option_map (λ (x : Bor X). f x.now) found ≡ slice_get ys i
lent_at f xs ys i found item is =
    copied_by f found
    ∙ (ap (option_map f) (copied_at xs i found item)
    ∙ (sym (slice_get-map f xs i)
    ∙ ap (λ l. slice_get l i) is))

-- ---- what is still to be compared

taken_next : {X Y : Type 0} (f : X → Y) (xs : List X) (i : ℕ) (x : X) → slice_get xs i ≡ Some x →
    (more : List Y) × (drop i (map f xs) ≡ f x ∷ more)
taken_next f [] i x e = absurd cc
taken_next f (y ∷ ys) zero x e = let same : y ≡ x = cc in (map f ys, ap (λ z. f z ∷ map f ys) same)
taken_next f (y ∷ ys) (suc i) x e = taken_next f ys i x e

none_taken : {X Y : Type 0} (f : X → Y) (xs : List X) (i : ℕ) → slice_get xs i ≡ None → drop i (map f xs) ≡ []
none_taken f [] zero e = refl
none_taken f [] (suc i) e = refl
none_taken f (y ∷ ys) zero e = absurd cc
none_taken f (y ∷ ys) (suc i) e = none_taken f ys i e

abbrev made_by : RunState → Event → Made
made_by run event = record { place = run.place; event = event }

module _ (following : Following) where
  pub next_still : (event : Event) → next_of following ≡ Some event →
      (more : List Made) × (still_made following ≡ made_by following.run event ∷ more)
  next_still event is = taken_next (made_by following.run) following.run.events following.taken event is

  pub none_still : next_of following ≡ None → still_made following ≡ []
  none_still is = none_taken (made_by following.run) following.run.events following.taken is

  -- an event that is still to be compared is one of the last item
  pub still_inside : (next : Made) (more : List Made) → still_made following ≡ next ∷ more → following.taken < length following.run.events
  still_inside next more is = inside (next_of following) refl
    where
      inside : (o : Option Event) → next_of following ≡ o → following.taken < length following.run.events
      inside None e = let never : [] ≡ next ∷ more = sym (none_still e) ∙ is in absurd cc
      inside (Some event) e = slice_get_within following.run.events following.taken event e

  -- ---- what differs

  none_next : (spot : Spot) (place : ℕ) (event : Event) → next_of following ≡ None → is_open following.run.progress ≡ false →
      IsNextDifference spot place event following (Some (difference_at spot place following.run.place (only_in_old event)))
  none_next spot place event is closed = λ old_end new_end old_more new_more may.
      let over = may closed in
      λ i. compared spot old_end (over.1 i) (record { place = place; event = event } ∷ old_more) (none_still is i ++ over.0 i)

  same_next : (spot : Spot) (place : ℕ) (event other : Event) → next_of following ≡ Some other → is_same_event event other ≡ true →
      IsNextDifference spot place event following None
  same_next spot place event other is same =
      let next = next_still other is in (made_by following.run other, next.0, next.1, sym (same_event event other same))

  other_next : (spot : Spot) (place : ℕ) (event other : Event) → next_of following ≡ Some other → is_same_event event other ≡ false →
      IsNextDifference spot place event following
      (Some (difference_at spot place following.run.place (change_of event other)))
  other_next spot place event other is differs = λ old_end new_end old_more new_more may.
      let next = next_still other is in
      let x : Made = record { place = place; event = event } in
      ap (λ l. compared spot old_end new_end (x ∷ old_more) (l ++ new_more)) next.1
      ∙ ap
      (λ t. if t then compared (behind_event event spot) old_end new_end old_more (next.0 ++ new_more)
      else Differs (difference_at spot place following.run.place (change_of event other)))
      differs

  -- the next event differs so, where one has come
  pub next_differs : (spot : Spot) (place : ℕ) (event other : Event) → Some other ≡ next_of following →
      IsNextDifference spot place event following (difference_of spot place following.run.place event other)
  next_differs spot place event other is = by_test (is_same_event event other) refl
    where
      by_test : (t : Bool) → is_same_event event other ≡ t → IsNextDifference spot place event following
          (if t then None else Some (difference_at spot place following.run.place (change_of event other)))
      by_test true same = same_next spot place event other (sym is) same
      by_test false differs = other_next spot place event other (sym is) differs

  -- where none has come and none may come, OLD has one more
  pub lacks_differs : (spot : Spot) (place : ℕ) (event : Event) → None ≡ next_of following →
      (still_made following ≡ [] → is_open following.run.progress ≡ false) →
      IsNextDifference spot place event following (Some (difference_at spot place following.run.place (only_in_old event)))
  lacks_differs spot place event is came = none_next spot place event (sym is) (came (none_still (sym is)))

  pub further_some : (spot : Spot) (end : ℕ) (event : Event) → Some event ≡ next_of following →
      further_difference spot end following ≡ Some (difference_at spot end following.run.place (only_in_new event))
  further_some spot end event is = ap (first_further spot end) (next_still event (sym is)).1

  pub further_none : (spot : Spot) (end : ℕ) → None ≡ next_of following → further_difference spot end following ≡ None
  further_none spot end is = ap (first_further spot end) (none_still (sym is))

  -- ---- how it goes on

  pub lacks_tells : lacks_next following ≡ true → (still_made following ≡ []) × (is_open following.run.progress ≡ true)
  lacks_tells is = tells (next_of following) refl is
    where
      tells : (o : Option Event) → next_of following ≡ o → lacks o following.run.progress ≡ true →
          (still_made following ≡ []) × (is_open following.run.progress ≡ true)
      tells None e h = (none_still e, h)
      tells (Some event) e h = absurd (false≢true h)

  pub lacks_over : lacks_next following ≡ false → still_made following ≡ [] → is_open following.run.progress ≡ false
  lacks_over is none = tells (next_of following) refl is
    where
      tells : (o : Option Event) → next_of following ≡ o → lacks o following.run.progress ≡ false →
          is_open following.run.progress ≡ false
      tells None e h = h
      tells (Some event) e h =
          let next = next_still event e in
          let never : [] ≡ made_by following.run event ∷ next.0 = sym none ∙ next.1 in absurd cc

-- nothing was compared of it
pub none_followed : (printer : Printer) (panel : Panel) (first : SourceState) (run : RunState) → run.events ≡ [] →
    HasRun printer panel first first [] run → HasFollowed printer panel first first [] (record { run = run; taken = 0 })
none_followed printer panel first run none h = record {
  has_run = subst (λ m. HasRun printer panel first first m run) (sym (ap (λ es. made_at run.place es) none)) h;
}

-- all that it made is behind it, and it took a step
pub gone_on : (run run' : RunState) (taken : ℕ) (old : Following) (now now' : SourceState) → record { run = run; taken = taken } ≡ old →
    still_made old ≡ [] → RunsOn now now' run run' → FollowsOn now now' old (record { run = run'; taken = 0 })
gone_on run run' taken old now now' is none runs printer panel first made h =
    let before : HasRun printer panel first now made run =
    subst (λ (f : Following). HasRun printer panel first now made f.run) (sym is)
    (subst (λ m. HasRun printer panel first now m old.run) (ap (λ l. made ++ l) none ∙ append-nil made) h.has_run) in
    record { has_run = runs printer panel first made before }
