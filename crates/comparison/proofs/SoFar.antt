-- What is found of two jobs that made the same so far.
use Rattle.std.proofs.Common.{◌≡◌, ℕ, ◌+◌, ◌<◌, ◌≤◌, List, [], ◌∷◌, ◌++◌, length, map, take, drop, get_or, Option, None, Some, ap, refl}
use Rattle.std.proofs.Common.{subst, sym, ◌∙◌, false, append-nil, append_assoc, if◌then◌else◌}
use Rattle.std.proofs.lemmas.List.{drop-drop, drop_more, map-append, take-append-drop, take_all, take_more}
use Rattle.device_profile.specs.declared.panel.Panel.{Panel}
use Rattle.device_profile.specs.Printer.{Printer}
use Rattle.page_machine.specs.Event.{Event}
use Rattle.streams.specs.Source.{SourceState}
use Rattle.comparison.specs.declared.difference.Comparison.TheVariants.{Differs}
use Rattle.comparison.specs.declared.difference.Difference.{Difference}
use Rattle.comparison.specs.declared.difference.Spot.{Spot}
use Rattle.comparison.specs.Changes.{change_of}
use Rattle.comparison.specs.Comparison.{Made, at_start, behind_event, compared, difference_at, made_at}
use Rattle.comparison.specs.Comparing.{AreLevel, EventCompared, EventCompares, EndsCompare, Following, FollowsOn, GoAlike, HasFollowed}
use Rattle.comparison.specs.Comparing.{IsNextDifference, ItemCompared, ItemCompares, StepCompares, ends_found, first_further}
use Rattle.comparison.specs.Comparing.{events_made, further_difference, spot_behind, still_made}
use Rattle.comparison.specs.Running.{HasRun, RunState, RunsOn, is_open, last_made}
use Rattle.comparison.proofs.Sameness.{event_same}

-- ---- behind what is the same

pub compared_behind : (spot : Spot) (old_end new_end : ℕ) (old new old_more new_more : List Made) →
    events_made old ≡ events_made new →
    compared spot old_end new_end (old ++ old_more) (new ++ new_more)
    ≡ compared (spot_behind (events_made old) spot) old_end new_end old_more new_more
compared_behind spot old_end new_end [] [] old_more new_more e = refl
compared_behind spot old_end new_end [] (b ∷ new) old_more new_more e = cc
compared_behind spot old_end new_end (a ∷ old) [] old_more new_more e = cc
compared_behind spot old_end new_end (a ∷ old) (b ∷ new) old_more new_more e =
    let first : a.event ≡ b.event = cc in
    let rest : events_made old ≡ events_made new = cc in
    let next : Spot = behind_event a.event spot in
    ap
    (λ t. if t then compared next old_end new_end (old ++ old_more) (new ++ new_more)
    else Differs (difference_at spot a.place b.place (change_of a.event b.event)))
    (event_same a.event b.event first)
    ∙ compared_behind next old_end new_end old new old_more new_more rest

pub spot_behind-append : (events more : List Event) (spot : Spot) →
    spot_behind (events ++ more) spot ≡ spot_behind more (spot_behind events spot)
spot_behind-append [] more spot = refl
spot_behind-append (event ∷ events) more spot = spot_behind-append events more (behind_event event spot)

drop_one : {X : Type 0} (n : ℕ) (xs ys : List X) (y : X) → drop n xs ≡ y ∷ ys → drop (n + 1) xs ≡ ys
drop_one n xs ys y e = sym (drop-drop 1 n xs) ∙ ap (drop 1) e

-- ---- an event of OLD, and what comes of NEW

module _ (printer : Printer) (panel : Panel) (new_first new_now : SourceState) (spot : Spot) (old_made : List Made)
    (following : Following) (level : AreLevel printer panel new_first new_now spot old_made following) where
  -- from here on the comparison is that of what comes behind
  pub compared_from : (old_more new_more : List Made) (old_end new_end : ℕ) →
      compared at_start old_end new_end (old_made ++ old_more) ((level.new_taken ++ still_made following) ++ new_more)
      ≡ compared spot old_end new_end old_more (still_made following ++ new_more)
  compared_from old_more new_more old_end new_end =
      ap (compared at_start old_end new_end (old_made ++ old_more)) (append_assoc level.new_taken (still_made following) new_more)
      ∙ (compared_behind at_start old_end new_end old_made level.new_taken old_more (still_made following ++ new_more) level.same
      ∙ ap (λ at. compared at old_end new_end old_more (still_made following ++ new_more)) (sym level.spot_is))

  -- they differ there
  pub level_differs : (place : ℕ) (event : Event) (difference : Difference) →
      IsNextDifference spot place event following (Some difference) →
      EventCompared (Some difference) printer panel new_first new_now spot old_made (record { place = place; event = event }) following
  level_differs place event difference next = λ later.
      let x : Made = record { place = place; event = event } in (
        level.new_taken ++ still_made following,
        level.followed.has_run,
        λ old_more new_more old_end new_end may.
            ap
            (λ old. compared at_start old_end new_end old ((level.new_taken ++ still_made following) ++ new_more))
            (append_assoc old_made (x ∷ later) old_more)
            ∙ (compared_from (x ∷ (later ++ old_more)) new_more old_end new_end
            ∙ next old_end new_end (later ++ old_more) new_more may),
      )

  -- they are the same there, and both are behind it
  pub level_passes : (place : ℕ) (event : Event) (spot' : Spot) (following' : Following) →
      IsNextDifference spot place event following None → spot' ≡ behind_event event spot →
      following' ≡ record following { taken = following.taken + 1 } →
      EventCompared None printer panel new_first new_now spot' old_made (record { place = place; event = event }) following'
  level_passes place event spot' following' next spot_is is =
      let x : Made = record { place = place; event = event } in
      let here : Following = record following { taken = following.taken + 1 } in
      let still_is : still_made here ≡ next.1 =
      drop_one following.taken (last_made following.run) next.1 next.0 next.2 in
      let made_is : level.new_taken ++ still_made following ≡ (level.new_taken ++ next.0 ∷ []) ++ still_made here =
      ap (λ more. level.new_taken ++ more) (next.2 ∙ ap (λ more. next.0 ∷ more) (sym still_is))
      ∙ sym (append_assoc level.new_taken (next.0 ∷ []) (still_made here)) in
      subst (λ (f : Following). AreLevel printer panel new_first new_now spot' (old_made ++ x ∷ []) f) (sym is)
      (record {
        new_taken = level.new_taken ++ next.0 ∷ [];
        followed = record {
          has_run = subst (λ made. HasRun printer panel new_first new_now made following.run) made_is level.followed.has_run;
        };
        same =
            map-append (λ (m : Made). m.event) old_made (x ∷ [])
            ∙ ((λ i. level.same i ++ sym next.3 i ∷ [])
            ∙ sym (map-append (λ (m : Made). m.event) level.new_taken (next.0 ∷ [])));
        spot_is =
            spot_is
            ∙ ap (behind_event event) level.spot_is
            ∙ sym
            (ap (λ events. spot_behind events at_start) (map-append (λ (m : Made). m.event) old_made (x ∷ []))
            ∙ spot_behind-append (events_made old_made) (event ∷ []) at_start);
      })

-- ---- from where both stood before

-- NEW went on, and no event more was compared
pub level_came : (printer : Printer) (panel : Panel) (new_first new_now new_now' : SourceState) (spot : Spot) (old_made : List Made)
    (old new : Following) → FollowsOn new_now new_now' old new → AreLevel printer panel new_first new_now spot old_made old →
    AreLevel printer panel new_first new_now' spot old_made new
level_came printer panel new_first new_now new_now' spot old_made old new goes level = record {
  new_taken = level.new_taken;
  followed = goes printer panel new_first level.new_taken level.followed;
  same = level.same;
  spot_is = level.spot_is;
}

pub event_differs : (new_now new_now' : SourceState) (spot : Spot) (place : ℕ) (event : Event) (old new : Following)
    (difference : Difference) → FollowsOn new_now new_now' old new → IsNextDifference spot place event new (Some difference) →
    EventCompares new_now new_now' spot spot (record { place = place; event = event }) old new (Some difference)
event_differs new_now new_now' spot place event old new difference goes next printer panel new_first old_made level =
    level_differs printer panel new_first new_now' spot old_made new
    (level_came printer panel new_first new_now new_now' spot old_made old new goes level) place event difference next

pub event_passes : (new_now new_now' : SourceState) (spot spot' : Spot) (place : ℕ) (event : Event) (old mid new : Following) →
    FollowsOn new_now new_now' old mid → IsNextDifference spot place event mid None → spot' ≡ behind_event event spot →
    new ≡ record mid { taken = mid.taken + 1 } →
    EventCompares new_now new_now' spot spot' (record { place = place; event = event }) old new None
event_passes new_now new_now' spot spot' place event old mid new goes next spot_is is printer panel new_first old_made level =
    level_passes printer panel new_first new_now' spot old_made mid
    (level_came printer panel new_first new_now new_now' spot old_made old mid goes level) place event spot' new next spot_is is

-- ---- the events of an item

abbrev made_of : ℕ → Event → Made
made_of place event = record { place = place; event = event }

made_more : {X : Type 0} (place : ℕ) (f : X → Event) (front : List X) (x : X) →
    made_at place (map f (front ++ x ∷ [])) ≡ made_at place (map f front) ++ record { place = place; event = f x } ∷ []
made_more place f front x =
    ap (made_at place) (map-append f front (x ∷ []))
    ∙ map-append (made_of place) (map f front) (f x ∷ [])

made_all : {X : Type 0} (place : ℕ) (f : X → Event) (front : List X) (x : X) (later : List X) →
    made_at place (map f (front ++ x ∷ later))
    ≡ made_at place (map f front) ++ record { place = place; event = f x } ∷ made_at place (map f later)
made_all place f front x later =
    ap (made_at place) (map-append f front (x ∷ later))
    ∙ map-append (made_of place) (map f front) (f x ∷ map f later)

-- so far the events before this number were compared
abbrev pub ComparesFront : {X : Type 0} → (new_now new_now' : SourceState) → (spot spot' : Spot) → ℕ → (X → Event) → List X →
    (old new : Following) → Type 0
ComparesFront new_now new_now' spot spot' place f front old new =
    (printer : Printer) (panel : Panel) (new_first : SourceState) (old_made : List Made) →
    AreLevel printer panel new_first new_now spot old_made old →
    AreLevel printer panel new_first new_now' spot' (old_made ++ made_at place (map f front)) new

pub front_none : {X : Type 0} (new_now : SourceState) (spot : Spot) (place : ℕ) (f : X → Event) (xs : List X) (old : Following) →
    ComparesFront new_now new_now spot spot place f (take 0 xs) old old
front_none new_now spot place f xs old printer panel new_first old_made level =
    subst (λ m. AreLevel printer panel new_first new_now spot m old) (sym (append-nil old_made)) level

module _ {X : Type 0} (new_now new_mid new_now' : SourceState) (spot mid spot' : Spot) (place : ℕ) (f : X → Event) (xs : List X) (i : ℕ)
    (x : X) (inside : i < length xs) (is : x ≡ get_or xs i x) (old before new : Following)
    (so_far : ComparesFront new_now new_mid spot mid place f (take i xs) old before) where
  front_is : take (i + 1) xs ≡ take i xs ++ x ∷ []
  front_is = take_more xs i x inside ∙ ap (λ y. take i xs ++ y ∷ []) (sym is)

  all_is : xs ≡ take i xs ++ x ∷ drop (i + 1) xs
  all_is = sym (take-append-drop i xs) ∙ ap (λ l. take i xs ++ l) (drop_more xs i x inside ∙ ap (λ y. y ∷ drop (i + 1) xs) (sym is))

  -- one more was the same
  pub front_more : (found : Option Difference) → found ≡ None →
      EventCompares new_mid new_now' mid spot' (record { place = place; event = f x }) before new found →
      ComparesFront new_now new_now' spot spot' place f (take (i + 1) xs) old new
  front_more found none compares printer panel new_first old_made level =
      let x_made : Made = record { place = place; event = f x } in
      let made = made_at place (map f (take i xs)) in
      let there = compares printer panel new_first (old_made ++ made) (so_far printer panel new_first old_made level) in
      subst (λ m. AreLevel printer panel new_first new_now' spot' m new)
      (append_assoc old_made made (x_made ∷ [])
      ∙ ap (λ l. old_made ++ l) (sym (ap (λ l. made_at place (map f l)) front_is ∙ made_more place f (take i xs) x)))
      (subst (λ o. EventCompared o printer panel new_first new_now' spot' (old_made ++ made) x_made new) none there)

  -- one differs, and so does the item
  pub front_differs : (found : Option Difference) (difference : Difference) → found ≡ Some difference →
      EventCompares new_mid new_now' mid spot' (record { place = place; event = f x }) before new found →
      ItemCompares new_now new_now' spot spot' (made_at place (map f xs)) old new (Some difference)
  front_differs found difference some compares printer panel new_first old_made level =
      let x_made : Made = record { place = place; event = f x } in
      let made = made_at place (map f (take i xs)) in
      let later = made_at place (map f (drop (i + 1) xs)) in
      let there = compares printer panel new_first (old_made ++ made) (so_far printer panel new_first old_made level) in
      subst (λ m. ItemCompared (Some difference) printer panel new_first new_now' spot' m new)
      (append_assoc old_made made (x_made ∷ later)
      ∙ ap (λ l. old_made ++ l)
      (sym (ap (λ l. made_at place (map f l)) all_is ∙ made_all place f (take i xs) x (drop (i + 1) xs))))
      (subst (λ o. EventCompared o printer panel new_first new_now' spot' (old_made ++ made) x_made new) some there later)

-- all were the same
pub front_all : {X : Type 0} (new_now new_now' : SourceState) (spot spot' : Spot) (place : ℕ) (f : X → Event) (xs : List X) (i : ℕ)
    (old new : Following) → length xs ≤ i → ComparesFront new_now new_now' spot spot' place f (take i xs) old new →
    ItemCompares new_now new_now' spot spot' (made_at place (map f xs)) old new None
front_all new_now new_now' spot spot' place f xs i old new over so_far printer panel new_first old_made level =
    subst (λ l. AreLevel printer panel new_first new_now' spot' (old_made ++ made_at place (map f l)) new) (take_all i xs over)
    (so_far printer panel new_first old_made level)

-- ---- a step of OLD

-- what its last item made
pub made_last : (run : RunState) (place : ℕ) (events : List Event) → place ≡ run.place → events ≡ run.events →
    made_at place events ≡ last_made run
made_last run place events place_is events_are = λ i. made_at (place_is i) (events_are i)

pub step_compares : (old_now old_now' new_now new_now' : SourceState) (old old' : RunState) (spot spot' : Spot) (new new' : Following)
    (made : List Made) → made ≡ last_made old' → RunsOn old_now old_now' old old' → (found : Option Difference) →
    ItemCompares new_now new_now' spot spot' made new new' found →
    StepCompares old_now old_now' new_now new_now' old old' spot spot' new new' found
step_compares old_now old_now' new_now new_now' old old' spot spot' new new' made made_is runs None compares printer panel old_first
    new_first alike =
    record {
      old_made = alike.old_made ++ last_made old';
      old_run = runs printer panel old_first alike.old_made alike.old_run;
      level =
          subst (λ m. AreLevel printer panel new_first new_now' spot' (alike.old_made ++ m) new') made_is
          (compares printer panel new_first alike.old_made alike.level);
    }
step_compares old_now old_now' new_now new_now' old old' spot spot' new new' made made_is runs (Some difference) compares printer panel
    old_first new_first alike =
    let there : ItemCompared (Some difference) printer panel new_first new_now' spot' (alike.old_made ++ last_made old') new' =
    subst (λ m. ItemCompared (Some difference) printer panel new_first new_now' spot' (alike.old_made ++ m) new') made_is
    (compares printer panel new_first alike.old_made alike.level) in
    record {
      old_made = alike.old_made ++ last_made old';
      new_made = there.0;
      old_run = runs printer panel old_first alike.old_made alike.old_run;
      new_run = there.1;
      is_found = λ old_more new_more old_end new_end may_old may_new. there.2 old_more new_more old_end new_end may_new;
    }

-- ---- the ends

-- behind all of OLD, NEW makes what it has still made, or nothing
compared_end : (spot : Spot) (old_end new_end : ℕ) (still more : List Made) → (still ≡ [] → more ≡ []) →
    compared spot old_end new_end [] (still ++ more) ≡ ends_found spot (first_further spot old_end still)
compared_end spot old_end new_end [] more none = ap (compared spot old_end new_end []) (none refl)
compared_end spot old_end new_end (made ∷ still) more none = refl

pub ends_compare : (new_now new_now' : SourceState) (old : RunState) (spot : Spot) (new new' : Following) →
    FollowsOn new_now new_now' new new' → is_open old.progress ≡ false →
    (still_made new' ≡ [] → is_open new'.run.progress ≡ false) →
    EndsCompare new_now new_now' old spot new new' (ends_found spot (further_difference spot old.place new'))
ends_compare new_now new_now' old spot new new' goes over came printer panel old_first old_now new_first alike =
    let level = level_came printer panel new_first new_now new_now' spot alike.old_made new new' goes alike.level in
    record {
      old_made = alike.old_made;
      new_made = level.new_taken ++ still_made new';
      old_run = alike.old_run;
      new_run = level.followed.has_run;
      is_found = λ old_more new_more old_end new_end may_old may_new.
          let done = may_old over in
          compared_from printer panel new_first new_now' spot alike.old_made new' level old_more new_more old_end new_end
          ∙ ((λ i. compared spot (done.1 i) new_end (done.0 i) (still_made new' ++ new_more))
          ∙ compared_end spot old.place new_end (still_made new') new_more (λ none. (may_new (came none)).0));
    }
