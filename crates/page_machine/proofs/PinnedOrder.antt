-- Items of a job one after another give the same events, and end with the same finding, as those of the pinned job that stand there.
use Rattle.std.proofs.Common.{◌≡◌, ℕ, Bool, false, cond, List, [], ◌∷◌, ◌++◌, refl, ap, sym, ◌∙◌, subst, append_assoc, None, ◌⊎◌, inl, inr}
use Rattle.pcl_items.specs.Items.{Placed}
use Rattle.device_profile.specs.Printer.{Printer}
use Rattle.macro_store.specs.Store.{Store}
use Rattle.page_env.specs.declared.finding.Finding.{Finding}
use Rattle.page_env.specs.Settings.{Settings, State}
use Rattle.page_env.specs.Pinned.{pinned, IsBare}
use Rattle.page_machine.specs.Defining.{is_defining, defining_of, defining_run, defined_after, carried_after}
use Rattle.page_machine.specs.Event.{Event}
use Rattle.page_machine.specs.Job.{JobRun, events_of, begun_with, one_item, ended_item, after_item, with_macros, items_run}
use Rattle.page_machine.specs.Laws.{IsSet, IsNotUnset}
use Rattle.page_machine.specs.Macros.{in_job}
use Rattle.page_machine.specs.Pinning.{FindsRoom, IsSameOutcome}
use Rattle.page_machine.specs.Run.{Peaks, Run, after, onward, followed_by, Ending, Done, Halts, item_run}
use Rattle.page_machine.proofs.PinnedRuns.{pinned_ending, EndsBare}
use Rattle.page_machine.proofs.PinnedJobs.{AlikeInRoom}

-- unless the second has no room for its bodies
abbrev pub EndAlike : JobRun → JobRun → Type 0
EndAlike r r' = FindsRoom r'.ending → IsSameOutcome r r'

pub ended_room : (place : ℕ) (events : List Event) (peaks : Peaks) (e : Ending) (next : State → JobRun) →
    FindsRoom (ended_item place events peaks e next).ending → FindsRoom e
ended_room place events peaks (Done s) next room = tt
ended_room place events peaks (Halts finding) next room = room

-- ---- a run that gives no event and goes on

pub record LeadsTo (r : Run) (t : State) : Type 0 where
  pub events : r.events ≡ []
  pub ending : r.ending ≡ Done t

-- of the second alone
pub led : (place : ℕ) (r : JobRun) (r' : Run) (t : State) (next : State → JobRun) → LeadsTo r' t → EndAlike r (next t) →
    EndAlike r (after_item place r' next)
led place r r' t next leads p =
    subst (λ (e : Ending). EndAlike r (ended_item place r'.events r'.peaks e next)) (sym leads.ending)
    (λ room. let same = p room in
    record { events = ap (λ l. l ++ events_of (next t).items) leads.events ∙ same.events; finding = same.finding; set = same.set })

-- of both, at the same place
pub both_led : (place : ℕ) (r r' : Run) (t t' : State) (next next' : State → JobRun) → LeadsTo r t → LeadsTo r' t' →
    EndAlike (next t) (next' t') → EndAlike (after_item place r next) (after_item place r' next')
both_led place r r' t t' next next' leads leads' p =
    subst (λ (e : Ending). EndAlike (ended_item place r.events r.peaks e next) (after_item place r' next')) (sym leads.ending)
    (subst
    (λ (e : Ending). EndAlike (begun_with (one_item place r.events None) r.peaks (next t)) (ended_item place r'.events r'.peaks e next'))
    (sym leads'.ending)
    (λ room.
    let same = p room in
    record {
      events =
          ap (λ l. l ++ events_of (next' t').items) leads'.events ∙ same.events
          ∙ ap (λ l. l ++ events_of (next t).items) (sym leads.events);
      finding = same.finding;
      set = same.set;
    }))

-- ---- runs that both go on from the start, or both end

-- the same events, and then both end by one finding, or each goes on from a state of its own
pub record IsRestart (r r' : Run) (t t' : State) : Type 0 where
  pub events : r'.events ≡ r.events
  pub ending : ((r.ending ≡ Done t) × (r'.ending ≡ Done t'))
      ⊎ ((finding : Finding) × (r.ending ≡ Halts finding) × (r'.ending ≡ Halts finding) × IsNotUnset finding)

pub restarted : (place : ℕ) (r r' : Run) (t t' : State) (next next' : State → JobRun) → IsRestart r r' t t' → EndAlike (next t) (next' t') →
    EndAlike (after_item place r next) (after_item place r' next')
restarted place r r' t t' next next' same p = by same.ending
  where
    pair : Ending → Ending → Type 0
    pair e e' = EndAlike (ended_item place r.events r.peaks e next) (ended_item place r'.events r'.peaks e' next')

    by : ((r.ending ≡ Done t) × (r'.ending ≡ Done t'))
        ⊎ ((finding : Finding) × (r.ending ≡ Halts finding) × (r'.ending ≡ Halts finding) × IsNotUnset finding) →
        pair r.ending r'.ending
    by (inl both) =
        subst (λ (e : Ending). pair e r'.ending) (sym both.0)
        (subst (λ (e : Ending). pair (Done t) e) (sym both.1)
        (λ room.
        let rest = p room in
        record {
          events = ap (λ l. l ++ events_of (next' t').items) same.events ∙ ap (λ l. r.events ++ l) rest.events;
          finding = rest.finding;
          set = rest.set;
        }))
    by (inr both) =
        subst (λ (e : Ending). pair e r'.ending) (sym both.1)
        (subst (λ (e : Ending). pair (Halts both.0) e) (sym both.2)
        (λ room. record { events = ap (λ l. l ++ []) same.events; finding = refl; set = both.3 }))

-- an item of the job that leaves the macros, while no definition is open
module _ (printer : Printer) (defaults : Settings) (finally : Store → State → JobRun) (macros : Store)
    (closed : is_defining macros ≡ false) where
  pub led_on : (x : Placed) (items : List Placed) (r : JobRun) (s t : State) → ((id : ℕ) → carried_after id x.item macros ≡ macros) →
      LeadsTo (item_run printer (in_job (with_macros printer defaults macros)) x.item s) t
      → EndAlike r (items_run printer defaults finally items macros t)
      → EndAlike r (items_run printer defaults finally (x ∷ items) macros s)
  led_on x items r s t leaves leads p =
      let id : ℕ = s.settings.job.macro_id in
      let first : Run = item_run printer (in_job (with_macros printer defaults macros)) x.item s in
      subst
      (λ (b : Bool). EndAlike r
      (after_item x.place (cond b (defining_run macros x.item (defining_of x.item) s) first)
      (items_run printer defaults finally items
      (cond b (defined_after x.item (defining_of x.item) macros) (carried_after id x.item macros)))))
      (sym closed)
      (subst (λ (store : Store). EndAlike r (after_item x.place first (items_run printer defaults finally items store))) (sym (leaves id))
      (led x.place r first t (items_run printer defaults finally items macros) leads p))

-- ---- an item, and what is next

module _ (printer : Printer) (from : Settings) where
  ended_alike : (place : ℕ) (events events' : List Event) (peaks peaks' : Peaks) (e : Ending) (next next' : State → JobRun) →
      events' ≡ events → EndsBare e → IsSet e → ((s : State) → IsBare s → EndAlike (next s) (next' (pinned printer from s))) →
      EndAlike (ended_item place events peaks e next) (ended_item place events' peaks' (pinned_ending printer from e) next')
  ended_alike place events events' peaks peaks' (Done s) next next' same bare set q room =
      let rest = q s bare room in
      record {
        events = ap (λ l. l ++ events_of (next' (pinned printer from s)).items) same ∙ ap (λ l. events ++ l) rest.events;
        finding = rest.finding;
        set = rest.set;
      }
  ended_alike place events events' peaks peaks' (Halts finding) next next' same bare set q room =
      record { events = ap (λ l. l ++ []) same; finding = refl; set = set }

  pub item_then : (place : ℕ) (r r' : Run) (next next' : State → JobRun) → AlikeInRoom printer from r r' →
      ((s : State) → IsBare s → EndAlike (next s) (next' (pinned printer from s))) →
      EndAlike (after_item place r next) (after_item place r' next')
  item_then place r r' next next' p q room =
      let first = p (ended_room place r'.events r'.peaks r'.ending next' room) in
      subst (λ (e : Ending). EndAlike (after_item place r next) (ended_item place r'.events r'.peaks e next')) (sym first.ending)
      (ended_alike place r.events r'.events r.peaks r'.peaks r.ending next next' first.events first.bare first.set q) room

  -- ---- an item with another behind it, which ends a run, if at all, for want of memory

  module _ (place there : ℕ) (r : Run) (next next' : State → JobRun)
      (q : (s : State) → IsBare s → EndAlike (next s) (next' (pinned printer from s))) where
    second_then : (events more : List Event) (peaks others : Peaks) (e : Ending) → (FindsRoom e → (f : Finding) → e ≡ Halts f → ⊥) →
        AlikeInRoom printer from r (after events peaks (record { events = more; peaks = others; ending = e }))
        → EndAlike (after_item place r next) (begun_with (one_item place events None) peaks (ended_item there more others e next'))
    second_then events more peaks others (Halts finding) quiet p room = absurd (quiet room finding refl)
    second_then events more peaks others (Done t) quiet p room =
        let both : Run = after events peaks (record { events = more; peaks = others; ending = Done t }) in
        let same = item_then place r both next next' p q room in
        record { events = sym (append_assoc events more (events_of (next' t).items)) ∙ same.events; finding = same.finding; set = same.set }

    first_then : (events : List Event) (peaks : Peaks) (e : Ending) (second : State → Run) →
        ((u : State) → FindsRoom (second u).ending → (f : Finding) → (second u).ending ≡ Halts f → ⊥) →
        AlikeInRoom printer from r (onward events peaks e second)
        → EndAlike (after_item place r next) (ended_item place events peaks e (λ u. after_item there (second u) next'))
    first_then events peaks (Halts finding) second quiet p =
        item_then place r (record { events = events; peaks = peaks; ending = Halts finding }) next next' p q
    first_then events peaks (Done u) second quiet p =
        second_then events (second u).events peaks (second u).peaks (second u).ending (quiet u) p

  pub two_then : (place there : ℕ) (r first : Run) (second : State → Run) (next next' : State → JobRun) →
      ((u : State) → FindsRoom (second u).ending → (f : Finding) → (second u).ending ≡ Halts f → ⊥) →
      AlikeInRoom printer from r (followed_by first second)
      → ((s : State) → IsBare s → EndAlike (next s) (next' (pinned printer from s)))
      → EndAlike (after_item place r next) (after_item place first (λ u. after_item there (second u) next'))
  two_then place there r first second next next' quiet p q =
      first_then place there r next next' q first.events first.peaks first.ending second quiet p
