-- Where two printers differ every run goes through the item, and there its events are not the same.
use Rattle.std.proofs.Common.{◌≡◌, ◌≤◌, ◌<◌, ◌+◌, ◌⊎◌, inl, inr, ℕ, zero, suc, Bool, true, false, cond, List, [], ◌∷◌, None, Some, refl, ap}
use Rattle.std.proofs.Common.{sym, ◌∙◌, subst, arith}
use Rattle.pcl_items.specs.Items.{Placed}
use Rattle.pcl_lexer.specs.Reading.{Reading, Whole, Stopped}
use Rattle.pcl_items.specs.declared.fault.LexCause.TheVariants.{Syntax}
use Rattle.device_profile.specs.declared.panel.Panel.{Panel}
use Rattle.device_profile.specs.Printer.{Printer, first_panel}
use Rattle.macro_store.specs.Store.{Store, no_macros}
use Rattle.page_env.specs.Settings.{Settings, State, start_state, user_defaults, unwatched, watched}
use Rattle.page_machine.specs.Event.{Event}
use Rattle.page_machine.specs.Run.{Peaks, Run, Ending, Done, Halts}
use Rattle.page_machine.specs.Defining.{job_item_run, macros_after, job_end_run}
use Rattle.page_machine.specs.Job.{ItemRun, JobRun, at_end, no_end, ended_item, with_macros, items_run, end_run, plain_run, watched_run}
use Rattle.page_machine.specs.Laws.{IsSet, RunsPlainly}
use Rattle.page_machine.specs.Pinning.{found_at, finding_of}
use Rattle.verdict.specs.declared.reason.Reason.TheVariants.{Finding as FindingOfRun, Differs}
use Rattle.sinks.specs.Same.{are_same}
use Rattle.judgement.specs.Wrong.{Wrong, wrong, findings_in, differences_in}
use Rattle.judgement.specs.Verdict.{watched_items}
use Rattle.judgement.specs.Failing.{GoesThrough, events_before, events_behind}
use Rattle.sinks.proofs.Same.{events_decide}
use Rattle.preflight.proofs.Soonest.{IsIn}
use Rattle.preflight.proofs.RunEnds.{set_of, ends_without}

-- ---- the item at which two runs differ

-- so many items come before one at this place
abbrev pub HasItem : ℕ → ℕ → List ItemRun → Type 0
HasItem n place [] = ⊥
HasItem zero place (x ∷ xs) = x.place ≡ place
HasItem (suc n) place (x ∷ xs) = HasItem n place xs

-- a list has more than so many
abbrev pub HasMore : {X : Type 0} → ℕ → List X → Type 0
HasMore n [] = ⊥
HasMore zero (x ∷ xs) = Unit {0}
HasMore (suc n) (x ∷ xs) = HasMore n xs

-- it is where this run differs from the first, and so many items come before it
pub record IsDifference (number count_before : ℕ) (first items : List ItemRun) (w : Wrong) : Type 0 where
  pub count : ℕ
  pub before_is : w.count_before ≡ count_before + count
  pub number_is : w.profile ≡ number
  pub reason_is : w.reason ≡ Differs
  pub has : HasItem count w.place items
  pub has_first : HasMore count first
  pub other : are_same (events_behind count first) (events_behind count items) ≡ false

differing : (number count_before : ℕ) (a b : ItemRun) (first items : List ItemRun) (w : Wrong) (same : Bool) →
    (IsIn w (differences_in first number (count_before + 1) items) → IsDifference number (count_before + 1) first items w) →
    are_same a.events b.events ≡ same →
    IsIn w (cond same (differences_in first number (count_before + 1) items) (wrong count_before b.place number Differs ∷ [])) →
    IsDifference number count_before (a ∷ first) (b ∷ items) w
differing number count_before a b first items w true rest is h =
    let d = rest h in
    record {
      count = suc d.count;
      before_is = omega (arith, d.before_is);
      number_is = d.number_is;
      reason_is = d.reason_is;
      has = d.has;
      has_first = d.has_first;
      other = d.other;
    }
differing number count_before a b first items w false rest is (inl here) = record {
  count = zero;
  before_is = omega (arith, ap (λ (v : Wrong). v.count_before) here);
  number_is = sym (ap (λ (v : Wrong). v.profile) here);
  reason_is = sym (ap (λ (v : Wrong). v.reason) here);
  has = ap (λ (v : Wrong). v.place) here;
  has_first = tt;
  other = is;
}
differing number count_before a b first items w false rest is (inr nothing) = absurd nothing

pub its_difference : (number count_before : ℕ) (first items : List ItemRun) (w : Wrong) →
    IsIn w (differences_in first number count_before items) →
    IsDifference number count_before first items w
its_difference number count_before [] items w h = absurd h
its_difference number count_before (a ∷ first) [] w h = absurd h
its_difference number count_before (a ∷ first) (b ∷ items) w h =
    differing number count_before a b first items w (are_same a.events b.events)
    (its_difference number (count_before + 1) first items w) refl h

-- ---- where two runs differ first, they are the same before

same_head : (m count_before n : ℕ) (a b : ItemRun) (first items : List ItemRun) (same : Bool) → are_same a.events b.events ≡ same →
    ((v : Wrong) → IsIn v (cond same (differences_in first m (count_before + 1) items) (wrong count_before b.place m Differs ∷ [])) →
    count_before + suc n ≤ v.count_before) →
    (b.events ≡ a.events) × ((v : Wrong) → IsIn v (differences_in first m (count_before + 1) items) → count_before + 1 + n ≤ v.count_before)
same_head m count_before n a b first items true is h = (sym ((events_decide a.events b.events).0 is), λ v has. omega (arith, h v has))
same_head m count_before n a b first items false is h = absurd (omega (arith, h (wrong count_before b.place m Differs) (inl refl)))

pub same_before : (m count_before n : ℕ) (first items : List ItemRun) →
    ((v : Wrong) → IsIn v (differences_in first m count_before items) → count_before + n ≤ v.count_before) →
    HasMore n first → HasMore n items → events_before n items ≡ events_before n first
same_before m count_before zero first items h more others = refl
same_before m count_before (suc n) [] items h more others = absurd more
same_before m count_before (suc n) (a ∷ first) [] h more others = absurd others
same_before m count_before (suc n) (a ∷ first) (b ∷ items) h more others =
    let same = same_head m count_before n a b first items (are_same a.events b.events) refl h in
    ap (λ events. events ∷ events_before n items) same.0
    ∙ ap (λ rest. a.events ∷ rest) (same_before m (count_before + 1) n first items same.1 more others)

-- and at the item too, where they differ later still
pub same_there : (m count_before n : ℕ) (first items : List ItemRun) →
    ((v : Wrong) → IsIn v (differences_in first m count_before items) → count_before + n < v.count_before) →
    HasMore n first → HasMore n items → events_behind n items ≡ events_behind n first
same_there m count_before n [] items h more others = absurd more
same_there m count_before n (a ∷ first) [] h more others = absurd others
same_there m count_before zero (a ∷ first) (b ∷ items) h more others =
    (same_head m count_before zero a b first items (are_same a.events b.events) refl (λ v has. omega (arith, h v has))).0
same_there m count_before (suc n) (a ∷ first) (b ∷ items) h more others =
    let same = same_head m count_before (suc n) a b first items (are_same a.events b.events) refl (λ v has. omega (arith, h v has)) in
    same_there m (count_before + 1) n first items (λ v has. omega (arith, same.1 v has)) more others

pub more_through : (n place : ℕ) (items : List ItemRun) → GoesThrough n place items → HasMore n items
more_through n place [] h = absurd h
more_through zero place (x ∷ items) h = tt
more_through (suc n) place (x ∷ items) h = more_through n place items h.1

-- ---- a run that finds nothing so far comes to the item to which another comes

abbrev ComesThrough : JobRun → JobRun → Type 0
ComesThrough r r' =
    (number count_before n place : ℕ) → HasItem n place r'.items →
    ((w : Wrong) → IsIn w (findings_in number count_before r.items) → count_before + n < w.count_before) → GoesThrough n place r.items

item_through : (at : ℕ) (es es' : List Event) (p p' : Peaks) (e e' : Ending) (next next' : State → JobRun) →
    ((s s' : State) → ComesThrough (next s) (next' s')) → ComesThrough (ended_item at es p e next) (ended_item at es' p' e' next')
item_through at es es' p p' (Halts f) e' next next' rest number count_before n place has later =
    absurd (omega (arith, later (wrong count_before at number (FindingOfRun f)) (inl refl)))
item_through at es es' p p' (Done s) (Done s') next next' rest number count_before zero place has later = (refl, has)
item_through at es es' p p' (Done s) (Halts g) next next' rest number count_before zero place has later = (refl, has)
item_through at es es' p p' (Done s) (Done s') next next' rest number count_before (suc n) place has later =
    (refl, rest s s' number (count_before + 1) n place has (λ w h. omega (arith, later w h)))
item_through at es es' p p' (Done s) (Halts g) next next' rest number count_before (suc n) place has later = absurd has

module _ (p q : Printer) (d e : Settings) where
  items_through : (finally finally' : Store → State → JobRun) →
      ((k k' : Store) (s s' : State) → ComesThrough (finally k s) (finally' k' s')) → (items : List Placed) (k k' : Store) (s s' : State) →
      ComesThrough (items_run p d finally items k s) (items_run q e finally' items k' s')
  items_through finally finally' last [] k k' s s' = last k k' s s'
  items_through finally finally' last (x ∷ items) k k' s s' =
      let r : Run = job_item_run (with_macros p d k) x.item s in
      let r' : Run = job_item_run (with_macros q e k') x.item s' in
      let next : Store = macros_after s.settings.job.macro_id x.item k in
      let next' : Store = macros_after s'.settings.job.macro_id x.item k' in
      item_through x.place r.events r'.events r.peaks r'.peaks r.ending r'.ending (items_run p d finally items next)
      (items_run q e finally' items next') (items_through finally finally' last items next next')

  end_through : (place : ℕ) (k k' : Store) (s s' : State) → ComesThrough (end_run p d place k s) (end_run q e place k' s')
  end_through place k k' s s' =
      let r : Run = job_end_run (with_macros p d k) s in
      let r' : Run = job_end_run (with_macros q e k') s' in
      item_through place r.events r'.events r.peaks r'.peaks r.ending r'.ending at_end at_end
      (λ s s' number count_before n place has later. absurd has)

pub comes_through : (p q : Printer) (reading : Reading) (number n place : ℕ) → HasItem n place (watched_items q reading) →
    ((w : Wrong) → IsIn w (findings_in number 0 (watched_items p reading)) → n < w.count_before) →
    GoesThrough n place (watched_items p reading)
comes_through p q (Whole items at) number n place has later =
    let d : Settings = user_defaults (watched p) (first_panel p) in
    let e : Settings = user_defaults (watched q) (first_panel q) in
    items_through p q d e (end_run p d at) (end_run q e at) (end_through p q d e at) items (no_macros p.memory) (no_macros q.memory)
    (start_state p.most_items d) (start_state q.most_items e) number 0 n place has (λ w h. omega (arith, later w h))
comes_through p q (Stopped items at cause) number n place has later =
    let d : Settings = user_defaults (watched p) (first_panel p) in
    let e : Settings = user_defaults (watched q) (first_panel q) in
    items_through p q d e no_end no_end (λ k k' s s' number count_before n place has later. absurd has) items (no_macros p.memory)
    (no_macros q.memory) (start_state p.most_items d) (start_state q.most_items e) number 0 n place has (λ w h. omega (arith, later w h))

-- ---- the front of a run is the run of a front

-- so many of a list, and one more
abbrev front : {X : Type 0} → ℕ → List X → List X
front n [] = []
front zero (x ∷ xs) = x ∷ []
front (suc n) (x ∷ xs) = x ∷ front n xs

item_alone : (at : ℕ) (es : List Event) (p : Peaks) (e : Ending) (next next' : State → JobRun) → ((s : State) → (next' s).items ≡ []) →
    (ended_item at es p e next').items ≡ front 0 (ended_item at es p e next).items
item_alone at es p (Done s) next next' none = ap (λ (xs : List ItemRun). record { place = at; events = es; finding = None } ∷ xs) (none s)
item_alone at es p (Halts f) next next' none = refl

item_front : (n at : ℕ) (es : List Event) (p : Peaks) (e : Ending) (next next' : State → JobRun) →
    ((s : State) → (next' s).items ≡ front n (next s).items) →
    (ended_item at es p e next').items ≡ front (suc n) (ended_item at es p e next).items
item_front n at es p (Done s) next next' rest = ap (λ (xs : List ItemRun). record { place = at; events = es; finding = None } ∷ xs) (rest s)
item_front n at es p (Halts f) next next' rest = refl

module _ (printer : Printer) (d : Settings) (finally : Store → State → JobRun) where
  items_front : (n : ℕ) (items : List Placed) (k : Store) (s : State) → HasMore n items →
      (items_run printer d no_end (front n items) k s).items ≡ front n (items_run printer d finally items k s).items
  items_front n [] k s more = absurd more
  items_front zero (x ∷ items) k s more =
      let r : Run = job_item_run (with_macros printer d k) x.item s in
      let next : Store = macros_after s.settings.job.macro_id x.item k in
      item_alone x.place r.events r.peaks r.ending (items_run printer d finally items next) (items_run printer d no_end [] next) (λ s. refl)
  items_front (suc n) (x ∷ items) k s more =
      let r : Run = job_item_run (with_macros printer d k) x.item s in
      let next : Store = macros_after s.settings.job.macro_id x.item k in
      item_front n x.place r.events r.peaks r.ending (items_run printer d finally items next)
      (items_run printer d no_end (front n items) next) (λ s. items_front n items next s more)

-- ---- where a run goes through an item, nothing is found before

none_in_front : (n place : ℕ) (xs : List ItemRun) → GoesThrough n place xs → finding_of (front n xs) ≡ None
none_in_front n place [] h = absurd h
none_in_front zero place (x ∷ xs) h = ap (λ o. found_at x.place o None) h.0
none_in_front (suc n) place (x ∷ xs) h = ap (λ o. found_at x.place o (finding_of (front n xs))) h.0 ∙ none_in_front n place xs h.1

cons_is : (x y : ItemRun) (xs ys : List ItemRun) → y ∷ ys ≡ x ∷ xs → (y ≡ x) × (ys ≡ xs)
cons_is x y xs ys e = (cc, cc)

-- runs with the same front give the same events before
front_events : (n : ℕ) (xs ys : List ItemRun) → front n ys ≡ front n xs → events_before n ys ≡ events_before n xs
front_events zero xs ys e = refl
front_events (suc n) [] [] e = refl
front_events (suc n) [] (y ∷ ys) e = absurd cc
front_events (suc n) (x ∷ xs) [] e = absurd cc
front_events (suc n) (x ∷ xs) (y ∷ ys) e =
    let same = cons_is x y (front n xs) (front n ys) e in
    ap (λ (z : ItemRun). z.events ∷ events_before n ys) same.0 ∙ ap (λ rest. x.events ∷ rest) (front_events n xs ys same.1)

-- a run with the same front goes through it too, and gives the same events there
through_alike : (n place : ℕ) (xs ys : List ItemRun) → front n ys ≡ front n xs → GoesThrough n place xs →
    GoesThrough n place ys × (events_behind n ys ≡ events_behind n xs)
through_alike n place [] ys e h = absurd h
through_alike zero place (x ∷ xs) [] e h = absurd cc
through_alike (suc n) place (x ∷ xs) [] e h = absurd cc
through_alike zero place (x ∷ xs) (y ∷ ys) e h =
    let same : y ≡ x = (cons_is x y [] [] e).0 in
    ((ap (λ (z : ItemRun). z.finding) same ∙ h.0, ap (λ (z : ItemRun). z.place) same ∙ h.1), ap (λ (z : ItemRun). z.events) same)
through_alike (suc n) place (x ∷ xs) (y ∷ ys) e h =
    let same = cons_is x y (front n xs) (front n ys) e in
    let rest = through_alike n place xs ys same.1 h.1 in
    ((ap (λ (z : ItemRun). z.finding) same.0 ∙ h.0, rest.0), rest.1)

-- behind all items a run goes through its end alone
abbrev EndsThere : JobRun → Type 0
EndsThere r = (n place : ℕ) → GoesThrough n place r.items → finding_of r.items ≡ None

more_or_none : (n place : ℕ) (items : List Placed) (at : ℕ) (es : List Event) (p : Peaks) (e : Ending) (next : State → JobRun) →
    ((s : State) → GoesThrough n place (next s).items → HasMore n items ⊎ (finding_of (next s).items ≡ None)) →
    GoesThrough (suc n) place (ended_item at es p e next).items → HasMore n items ⊎ (finding_of (ended_item at es p e next).items ≡ None)
more_or_none n place items at es p (Done s) next rest h = rest s h.1
more_or_none n place items at es p (Halts f) next rest h = absurd h.1

ends_there : (at : ℕ) (es : List Event) (p : Peaks) (e : Ending) → EndsThere (ended_item at es p e at_end)
ends_there at es p (Done s) n place h = refl
ends_there at es p (Halts f) zero place h = absurd (let e : Some f ≡ None = h.0 in cc)
ends_there at es p (Halts f) (suc n) place h = absurd h.1

module _ (printer : Printer) (d : Settings) (finally : Store → State → JobRun)
    (last : (k : Store) (s : State) → EndsThere (finally k s)) where
  has_more_or_none : (n place : ℕ) (items : List Placed) (k : Store) (s : State) →
      GoesThrough n place (items_run printer d finally items k s).items →
      HasMore n items ⊎ (finding_of (items_run printer d finally items k s).items ≡ None)
  has_more_or_none n place [] k s h = inr (last k s n place h)
  has_more_or_none zero place (x ∷ items) k s h = inl tt
  has_more_or_none (suc n) place (x ∷ items) k s h =
      let r : Run = job_item_run (with_macros printer d k) x.item s in
      let next : Store = macros_after s.settings.job.macro_id x.item k in
      more_or_none n place items x.place r.events r.peaks r.ending (items_run printer d finally items next)
      (λ s h. has_more_or_none n place items next s h) h

-- ---- the plain run goes through what the watched one goes through

module _ (plainly : (printer : Printer) (panel : Panel) (reading : Reading) → RunsPlainly printer (watched printer) panel reading) where
  without : (printer : Printer) (panel : Panel) (reading : Reading) → finding_of (watched_run printer panel reading).items ≡ None →
      IsSet (watched_run printer panel reading).ending
  without printer panel reading none =
      set_of (watched_run printer panel reading).ending (ends_without printer (watched printer) panel reading none)

  abbrev GoesPlainly : Printer → Panel → ℕ → ℕ → Reading → Type 0
  GoesPlainly printer panel n place reading =
      GoesThrough n place (plain_run printer panel reading).items
      × (events_behind n (plain_run printer panel reading).items ≡ events_behind n (watched_run printer panel reading).items)
      × (events_before n (plain_run printer panel reading).items ≡ events_before n (watched_run printer panel reading).items)

  module _ (printer : Printer) (panel : Panel) (n place : ℕ) where
    -- where it finds nothing at all
    in_whole : (reading : Reading) → finding_of (watched_run printer panel reading).items ≡ None →
        GoesThrough n place (watched_run printer panel reading).items → GoesPlainly printer panel n place reading
    in_whole reading none h =
        let same : (plain_run printer panel reading).items ≡ (watched_run printer panel reading).items =
        ap (λ (r : JobRun). r.items) (plainly printer panel reading (without printer panel reading none)) in
        (subst (GoesThrough n place) (sym same) h, ap (events_behind n) same, ap (events_before n) same)

    -- where what is found comes later: by the reading that stops behind the item
    in_its_front : (reading : Reading) (items : List Placed) (at : ℕ) →
        (watched_run printer panel (Stopped (front n items) at Syntax)).items ≡ front n (watched_run printer panel reading).items
        → (plain_run printer panel (Stopped (front n items) at Syntax)).items ≡ front n (plain_run printer panel reading).items
        → GoesThrough n place (watched_run printer panel reading).items → GoesPlainly printer panel n place reading
    in_its_front reading items at watched_front plain_front h =
        let stopped : Reading = Stopped (front n items) at Syntax in
        let none : finding_of (watched_run printer panel stopped).items ≡ None =
        ap finding_of watched_front ∙ none_in_front n place (watched_run printer panel reading).items h in
        let same : (plain_run printer panel stopped).items ≡ (watched_run printer panel stopped).items =
        ap (λ (r : JobRun). r.items) (plainly printer panel stopped (without printer panel stopped none)) in
        let fronts = sym plain_front ∙ (same ∙ watched_front) in
        let alike = through_alike n place (watched_run printer panel reading).items (plain_run printer panel reading).items fronts h in
        (alike.0, alike.1, front_events n (watched_run printer panel reading).items (plain_run printer panel reading).items fronts)

    pub goes_plainly : (reading : Reading) → GoesThrough n place (watched_run printer panel reading).items →
        GoesPlainly printer panel n place reading
    goes_plainly (Whole items at) h =
        let d : Settings = user_defaults (watched printer) panel in
        let e : Settings = user_defaults unwatched panel in
        elim (has_more_or_none printer d (end_run printer d at)
        (λ k s. let r : Run = job_end_run (with_macros printer d k) s in ends_there at r.events r.peaks r.ending) n place items
        (no_macros printer.memory) (start_state printer.most_items d) h) [
          | inl more ↦
              in_its_front (Whole items at) items at
              (items_front printer d (end_run printer d at) n items (no_macros printer.memory) (start_state printer.most_items d) more)
              (items_front printer e (end_run printer e at) n items (no_macros printer.memory) (start_state printer.most_items e) more) h
          | inr none ↦ in_whole (Whole items at) none h
        ]
    goes_plainly (Stopped items at cause) h =
        let d : Settings = user_defaults (watched printer) panel in
        let e : Settings = user_defaults unwatched panel in
        elim (has_more_or_none printer d no_end (λ k s n place h. absurd h) n place items (no_macros printer.memory)
        (start_state printer.most_items d) h) [
          | inl more ↦
              in_its_front (Stopped items at cause) items at
              (items_front printer d no_end n items (no_macros printer.memory) (start_state printer.most_items d) more)
              (items_front printer e no_end n items (no_macros printer.memory) (start_state printer.most_items e) more) h
          | inr none ↦ in_whole (Stopped items at cause) none h
        ]
