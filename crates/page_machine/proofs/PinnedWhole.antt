-- A job goes alike when it is pinned: behind each reset a prologue, and the spacing behind each orientation.
use Rattle.std.proofs.Common.{◌≡◌, ℕ, ◌+◌, ◌==◌, ◌||◌, length, Bool, true, false, cond, List, [], ◌∷◌, ◌++◌, nat_lt, refl, ap, sym, ◌∙◌}
use Rattle.std.proofs.Common.{subst, Option, Some, None, inl, inr}
use Rattle.std.specs.List.{AllByRecursion}
use Rattle.pcl_items.specs.Spellings.Canon.{canon}
use Rattle.pcl_items.specs.declared.pcl.command.Command.TheVariants.{Orientation}
use Rattle.pcl_items.specs.Items.{Entry, Placed, Reset, ExitLanguage, PjlLine, Parameterized}
use Rattle.pcl_items.specs.Escapes.Value.{Amount}
use Rattle.device_profile.specs.declared.font.FontRequest.{FontRequest}
use Rattle.device_profile.specs.declared.panel.Panel.{Panel}
use Rattle.device_profile.specs.Printer.{Printer}
use Rattle.macro_store.specs.Store.{Store, no_macros, stored_bytes, appended, cleared}
use Rattle.page_env.specs.declared.finding.Finding.{Finding}
use Rattle.page_env.specs.declared.finding.Finding.TheVariants.{MacroMemory, DefinitionOpen}
use Rattle.page_env.specs.Effect.{check, first_finding}
use Rattle.page_env.specs.FontInForce.{request_at}
use Rattle.page_env.specs.JobControl.{is_reset}
use Rattle.page_env.specs.Pinned.{pinned, is_orientation, is_unpinnable, IsBare}
use Rattle.page_env.specs.Settings.{Flags, Settings, State, unwatched, user_defaults, start_state}
use Rattle.page_machine.specs.declared.defining.Defining.TheVariants.{Stored}
use Rattle.page_machine.specs.Defining.{is_defining, of_memory, defining_run, carried_after, job_item_run, macros_after}
use Rattle.page_machine.specs.Event.{Event}
use Rattle.page_machine.specs.Job.{JobRun, at_end, after_item, with_macros, items_run, end_run}
use Rattle.page_machine.specs.Laws.{IsSet}
use Rattle.page_machine.specs.Macros.{MacroContext, in_job, page_close}
use Rattle.page_machine.specs.Pinning.{spacing, prologue, pinned_items, place_behind, placed_from, moved_from, FindsRoom}
use Rattle.page_machine.specs.Run.{Peaks, peaks_of, Run, just, after, onward, finding_or, Ending, Done, Halts, marked_close, reset_run}
use Rattle.page_machine.specs.Run.{item_run}
use Rattle.page_machine.proofs.PinnedRuns.{pinned_ending, EndsBare, Alike, done_alike, cond_alike}
use Rattle.page_machine.proofs.PinnedBodies.{CanBePinned, AreLaws, ArePinnedDefaults, page_alike}
use Rattle.page_machine.proofs.PinnedStore.{pinned_store}
use Rattle.page_machine.proofs.PinnedJobs.{IsPinnable, after_pinnable, defining_same, after_same, known, job_item_alike, job_turn_alike}
use Rattle.page_machine.proofs.PinnedJobs.{turned_same}
use Rattle.page_machine.proofs.PinnedOrder.{EndAlike, LeadsTo, both_led, IsRestart, restarted, item_then, two_then}
use Rattle.page_machine.proofs.PinnedStart.{CanBeSent, vmi_leads, prologue_led, prologue_pins}

-- an item of a job that can be pinned
pub can_be_pinned : (item : Entry) → is_unpinnable item ≡ false → is_reset item ≡ false → CanBePinned item
can_be_pinned item pinnable plain turns =
    ap (λ r. r || is_orientation item || is_unpinnable item) plain ∙ (ap (λ o. o || is_unpinnable item) turns ∙ pinnable)

abbrev pub AreAllPinnable : List Entry → Type 0
AreAllPinnable items = AllByRecursion (λ item. is_unpinnable item ≡ false) items

closed_cleared : (store : Store) → is_defining store ≡ false → cleared store ≡ no_macros store.limit
closed_cleared store e = by store.definition e
  where
    by : (found : Option (ℕ × List Entry)) → is_defining (record store { definition = found }) ≡ false →
        record store { bodies = []; definition = found } ≡ no_macros store.limit
    by None e = refl
    by (Some m) e = absurd cc

module _ (printer : Printer) (flags : Flags) (origin panel : Panel)
    (laws : AreLaws printer (user_defaults unwatched panel) (user_defaults flags origin)) (request : FontRequest)
    (can : CanBeSent printer panel request) (asks : request ≡ request_at printer.faces panel.font)
    (trayed : (panel.tray == 0) ≡ false) where
  abbrev defaults : Settings
  defaults = user_defaults unwatched panel

  abbrev from : Settings
  from = user_defaults flags origin

  abbrev v : ℕ
  v = panel.vmi

  both : ArePinnedDefaults v defaults from
  both = record { bare = (refl, refl); vmi = refl; few = can.vmi; hmi = refl }

  abbrev here : Store → MacroContext
  here macros = with_macros printer defaults macros

  abbrev there : Store → MacroContext
  there macros = with_macros printer from macros

  -- ---- the spacing ends a run, if at all, for want of memory

  full_or_not : (full : Bool) (peaks : Peaks) (u : State) (f : Finding) →
      FindsRoom (finding_or (first_finding (check full MacroMemory ∷ [])) (after [] peaks (just [] (Done u)))).ending →
      (finding_or (first_finding (check full MacroMemory ∷ [])) (after [] peaks (just [] (Done u)))).ending ≡ Halts f → ⊥
  full_or_not true peaks u f room e = room
  full_or_not false peaks u f room e = absurd cc

  led_not : (r : Run) (t : State) (f : Finding) → LeadsTo r t → r.ending ≡ Halts f → ⊥
  led_not r t f leads e = let same : Done t ≡ Halts f = sym leads.ending ∙ e in absurd cc

  spacing_quiet : (store : Store) (u : State) → FindsRoom (job_item_run (there store) (spacing v) u).ending → (f : Finding) →
      (job_item_run (there store) (spacing v) u).ending ≡ Halts f → ⊥
  spacing_quiet store u = by (is_defining store)
    where
      stored : Run
      stored = defining_run store (spacing v) Stored u

      alone : Run
      alone = item_run printer (in_job (there store)) (spacing v) u

      by : (b : Bool) → FindsRoom (cond b stored alone).ending → (f : Finding) → (cond b stored alone).ending ≡ Halts f → ⊥
      by true room f e =
          full_or_not (nat_lt store.limit (stored_bytes store + length (canon (spacing v))))
          (of_memory (stored_bytes (appended (spacing v) store))) u f room e
      by false room f e =
          let leads = vmi_leads printer (in_job (there store)) v u can.vmi in
          led_not alone _ f leads e

  -- ---- a reset, and the end of the bytes

  restart_of : (p p' q q' : Peaks) (events events' : List Event) (e : Ending) → events' ≡ events → EndsBare e → IsSet e
      → IsRestart (after [] p (onward events q e (λ t. just [] (Done (start_state t.items_left defaults)))))
      (after [] p' (onward events' q' (pinned_ending printer from e) (λ t. just [] (Done (start_state t.items_left from)))))
      (start_state None defaults) (start_state None from)
  restart_of p p' q q' events events' (Done s) same bare set =
      record {
        events = ap (λ l. l ++ []) same;
        ending = inl (
          ap (λ (left : Option ℕ). Done (start_state left defaults)) bare.2,
          ap (λ (left : Option ℕ). Done (start_state left from)) bare.2,
        );
      }
  restart_of p p' q q' events events' (Halts finding) same bare set = record { events = same; ending = inr (finding, refl, refl, set) }

  module _ (macros : Store) (p : IsPinnable macros) (s : State) (o : IsBare s) where
    abbrev others : Store
    others = pinned_store v macros

    -- while no definition is open
    reset_restarts : IsRestart (reset_run (in_job (here macros)) s) (reset_run (in_job (there others)) (pinned printer from s))
        (start_state None defaults) (start_state None from)
    reset_restarts =
        let close : State → Run = page_close (here macros) in
        let close' : State → Run = page_close (there others) in
        let m : Run = marked_close close s in
        let m' : Run = marked_close close' (pinned printer from s) in
        let closed : Alike printer from m m' =
        cond_alike printer from s.marked (close s) (just [] (Done s)) (close' (pinned printer from s))
        (just [] (Done (pinned printer from s)))
        (page_alike printer defaults from laws v both macros others (known printer from defaults laws v both macros p) s o)
        (done_alike printer from s o) in
        subst
        (λ (e : Ending).
        IsRestart (after [] (peaks_of s) (onward m.events m.peaks m.ending (λ t. just [] (Done (start_state t.items_left defaults)))))
        (after [] (peaks_of (pinned printer from s)) (onward m'.events m'.peaks e (λ t. just [] (Done (start_state t.items_left from)))))
        (start_state None defaults) (start_state None from))
        (sym closed.ending)
        (restart_of (peaks_of s)
        (peaks_of (pinned printer from s)) m.peaks m'.peaks m.events m'.events m.ending closed.events closed.bare closed.set)

    -- both stop where a definition is open, and else go on from the start
    reset_then : (place : ℕ) (next next' : Store → State → JobRun) →
        (is_defining macros ≡ false →
        EndAlike (next (cleared macros) (start_state None defaults)) (next' (cleared others) (start_state None from)))
        → EndAlike (after_item place (cond (is_defining macros) (just [] (Halts DefinitionOpen)) (reset_run (in_job (here macros)) s))
        (next (cond (is_defining macros) macros (cleared macros))))
        (after_item place
        (cond (is_defining others) (just [] (Halts DefinitionOpen)) (reset_run (in_job (there others)) (pinned printer from s)))
        (next' (cond (is_defining others) others (cleared others))))
    reset_then place next next' q =
        subst
        (λ (b : Bool). EndAlike
        (after_item place (cond (is_defining macros) (just [] (Halts DefinitionOpen)) (reset_run (in_job (here macros)) s))
        (next (cond (is_defining macros) macros (cleared macros))))
        (after_item place (cond b (just [] (Halts DefinitionOpen)) (reset_run (in_job (there others)) (pinned printer from s)))
        (next' (cond b others (cleared others)))))
        (sym (defining_same v macros))
        (by (is_defining macros) refl)
      where
        by : (b : Bool) → is_defining macros ≡ b →
            EndAlike
            (after_item place (cond b (just [] (Halts DefinitionOpen)) (reset_run (in_job (here macros)) s))
            (next (cond b macros (cleared macros))))
            (after_item place (cond b (just [] (Halts DefinitionOpen)) (reset_run (in_job (there others)) (pinned printer from s)))
            (next' (cond b others (cleared others))))
        by true e = λ room. record { events = refl; finding = refl; set = tt }
        by false e =
            restarted place (reset_run (in_job (here macros)) s) (reset_run (in_job (there others)) (pinned printer from s))
            (start_state None defaults) (start_state None from) (next (cleared macros)) (next' (cleared others)) reset_restarts (q e)

    -- no macros are left on either side
    both_cleared : (found : Option (ℕ × List Entry)) → macros.definition ≡ found →
        is_defining (record macros { definition = found }) ≡ false → cleared others ≡ no_macros macros.limit
    both_cleared None e closed = ap (λ (d : Option (ℕ × List Entry)). cleared (pinned_store v (record macros { definition = d }))) e
    both_cleared (Some m) e closed = absurd cc

  -- ---- items one after another

  module _ (finally finally' : Store → State → JobRun) where
    abbrev run : List Placed → Store → State → JobRun
    run items macros s = items_run printer defaults finally items macros s

    abbrev run' : List Placed → Store → State → JobRun
    run' items macros s = items_run printer from finally' items macros s

    abbrev moved : ℕ → Bool → List Entry → List Placed
    moved place due items = moved_from panel request place due items

    abbrev written : ℕ → Bool → List Entry → List Placed
    written place due items = placed_from place (pinned_items panel request due items)

    -- behind a prologue
    abbrev After : List Entry → Type 0
    After items =
        (place : ℕ) (macros : Store) (s : State) → IsPinnable macros → IsBare s →
        EndAlike (run (moved place false items) macros s) (run' (written place false items) (pinned_store v macros) (pinned printer from s))

    -- where a prologue is due
    abbrev Before : List Entry → Type 0
    Before items =
        (place limit : ℕ) →
        EndAlike (run (moved place true items) (no_macros limit) (start_state None defaults))
        (run' (written place true items) (no_macros limit) (start_state None from))

    -- an item and those behind it, where none is written before it: whether it is an orientation, and whether it resets
    abbrev moved_by : Bool → Bool → ℕ → Entry → List Entry → List Placed
    moved_by turns resets place item items =
        record { place = place; item = item }
        ∷ moved (place_behind (place + length (canon item)) (cond turns (spacing v ∷ []) [])) (resets || false) items

    abbrev written_by : Bool → Bool → ℕ → Entry → List Entry → List Placed
    written_by turns resets place item items =
        placed_from place (item ∷ cond turns (spacing v ∷ []) [] ++ pinned_items panel request (resets || false) items)

    plain_then : (item : Entry) (items : List Entry) → CanBePinned item → After items → is_orientation item ≡ false → (place : ℕ)
        (macros : Store) (s : State) → IsPinnable macros → IsBare s →
        EndAlike (run (moved_by false false place item items) macros s)
        (run' (written_by false false place item items) (pinned_store v macros) (pinned printer from s))
    plain_then item items one more plain place macros s p o =
        let id : ℕ = s.settings.job.macro_id in
        let store : Store = macros_after id item macros in
        let next : ℕ = place + length (canon item) in
        let r : Run = job_item_run (here macros) item s in
        let r' : Run = job_item_run (there (pinned_store v macros)) item (pinned printer from s) in
        subst
        (λ (last : Store).
        EndAlike (after_item place r (run (moved next false items) store)) (after_item place r' (run' (written next false items) last)))
        (sym (after_same v id item macros plain))
        (item_then printer from place r r' (run (moved next false items) store) (run' (written next false items) (pinned_store v store))
        (job_item_alike printer from defaults laws v both macros p item s (one plain) o)
        (λ t bare. more next store t (after_pinnable id item macros one p) bare))

    turn_then : (n : Amount) (items : List Entry) → After items → (place : ℕ) (macros : Store) (s : State) → IsPinnable macros → IsBare s →
        EndAlike (run (moved_by true false place (Parameterized Orientation n) items) macros s)
        (run' (written_by true false place (Parameterized Orientation n) items) (pinned_store v macros) (pinned printer from s))
    turn_then n items more place macros s p o =
        let item : Entry = Parameterized Orientation n in
        let store : Store = macros_after 0 item macros in
        let second : ℕ = place + length (canon item) in
        let next : ℕ = second + length (canon (spacing v)) in
        let others : Store = pinned_store v macros in
        let turned : Store = macros_after 0 item others in
        let r : Run = job_item_run (here macros) item s in
        let first : Run = job_item_run (there others) item (pinned printer from s) in
        subst
        (λ (last : Store). EndAlike (after_item place r (run (moved next false items) store)) (after_item place first (λ u.
        after_item second (job_item_run (there turned) (spacing v) u) (run' (written next false items) last))))
        (sym (turned_same printer from defaults laws v both macros p n))
        (two_then printer from place second r first (job_item_run (there turned) (spacing v)) (run (moved next false items) store)
        (run' (written next false items) (pinned_store v store)) (spacing_quiet turned)
        (job_turn_alike printer from defaults laws v both macros p n s o)
        (λ t bare. more next store t (after_pinnable 0 item macros (λ (e : true ≡ false). absurd cc) p) bare))

    turning_then : (item : Entry) (items : List Entry) → After items → is_orientation item ≡ true → (place : ℕ) (macros : Store)
        (s : State) → IsPinnable macros → IsBare s →
        EndAlike (run (moved_by true false place item items) macros s)
        (run' (written_by true false place item items) (pinned_store v macros) (pinned printer from s))
    turning_then (Parameterized Orientation n) items more e place macros s p o = turn_then n items more place macros s p o
    turning_then _ items more e place macros s p o = absurd cc

    item_after : (item : Entry) (items : List Entry) → CanBePinned item → After items → (b : Bool) → is_orientation item ≡ b → (place : ℕ)
        (macros : Store) (s : State) → IsPinnable macros → IsBare s →
        EndAlike (run (moved_by b false place item items) macros s)
        (run' (written_by b false place item items) (pinned_store v macros) (pinned printer from s))
    item_after item items one more true e place macros s p o = turning_then item items more e place macros s p o
    item_after item items one more false e place macros s p o = plain_then item items one more e place macros s p o

    -- no raster is started as a reset begins
    reset_after : (item : Entry) (items : List Entry) → Before items → is_reset item ≡ true → (place : ℕ) (macros : Store) (s : State) →
        IsPinnable macros → IsBare s →
        EndAlike (run (moved_by false true place item items) macros s)
        (run' (written_by false true place item items) (pinned_store v macros) (pinned printer from s))
    reset_after item items due e place macros s p o = at item e
      where
        others : Store
        others = pinned_store v macros

        from_start : (next : ℕ) → is_defining macros ≡ false →
            EndAlike (run (moved next true items) (cleared macros) (start_state None defaults))
            (run' (written next true items) (cleared others) (start_state None from))
        from_start next closed =
            subst
            (λ (store : Store). EndAlike (run (moved next true items) store (start_state None defaults))
            (run' (written next true items) (cleared others) (start_state None from)))
            (sym (closed_cleared macros closed))
            (subst
            (λ (store : Store). EndAlike (run (moved next true items) (no_macros macros.limit) (start_state None defaults))
            (run' (written next true items) store (start_state None from)))
            (sym (both_cleared macros p s o macros.definition refl closed)) (due next macros.limit))

        restart : (next : ℕ) →
            EndAlike (after_item place
            (cond (is_defining macros) (just [] (Halts DefinitionOpen)) (reset_run (in_job (here macros)) (record s { raster = None })))
            (run (moved next true items) (cond (is_defining macros) macros (cleared macros))))
            (after_item place
            (cond (is_defining others) (just [] (Halts DefinitionOpen))
            (reset_run (in_job (there others)) (pinned printer from (record s { raster = None }))))
            (run' (written next true items) (cond (is_defining others) others (cleared others))))
        restart next =
            reset_then macros p (record s { raster = None }) o place (run (moved next true items))
            (run' (written next true items)) (from_start next)

        at : (item : Entry) → is_reset item ≡ true →
            EndAlike (run (moved_by false true place item items) macros s)
            (run' (written_by false true place item items) others (pinned printer from s))
        at Reset e = restart (place + length (canon Reset))
        at ExitLanguage e = restart (place + length (canon ExitLanguage))
        at _ e = absurd cc

    no_turn : (item : Entry) → is_reset item ≡ true → is_orientation item ≡ false
    no_turn Reset e = refl
    no_turn ExitLanguage e = refl
    no_turn _ e = absurd cc

    step_after : (item : Entry) (items : List Entry) → is_unpinnable item ≡ false → After items → Before items → After (item ∷ items)
    step_after item items one more due place macros s p o = by (is_reset item) refl
      where
        by : (b : Bool) → is_reset item ≡ b →
            EndAlike (run (moved_by (is_orientation item) b place item items) macros s)
            (run' (written_by (is_orientation item) b place item items) (pinned_store v macros) (pinned printer from s))
        by true e =
            subst
            (λ (turns : Bool). EndAlike (run (moved_by turns true place item items) macros s)
            (run' (written_by turns true place item items) (pinned_store v macros) (pinned printer from s)))
            (sym (no_turn item e)) (reset_after item items due e place macros s p o)
        by false e = item_after item items (can_be_pinned item one e) more (is_orientation item) refl place macros s p o

    -- ---- where a prologue is due

    -- an item that needs none, from the start on both sides
    still : (item : Entry) (items : List Entry) (place limit : ℕ) → ((id : ℕ) → carried_after id item (no_macros limit) ≡ no_macros limit)
        → LeadsTo (item_run printer (in_job (here (no_macros limit))) item (start_state None defaults)) (start_state None defaults)
        → LeadsTo (item_run printer (in_job (there (no_macros limit))) item (start_state None from)) (start_state None from)
        → Before items
        → EndAlike
        (run (record { place = place; item = item } ∷ moved (place + length (canon item)) true items) (no_macros limit)
        (start_state None defaults))
        (run' (record { place = place; item = item } ∷ written (place + length (canon item)) true items)
        (no_macros limit) (start_state None from))
    still item items place limit leaves leads leads' due =
        let macros : Store = no_macros limit in
        let next : ℕ = place + length (canon item) in
        let r : Run = item_run printer (in_job (here macros)) item (start_state None defaults) in
        let r' : Run = item_run printer (in_job (there macros)) item (start_state None from) in
        subst
        (λ (store : Store).
        EndAlike (after_item place r (run (moved next true items) store)) (after_item place r' (run' (written next true items) store)))
        (sym (leaves 0))
        (both_led place r r' (start_state None defaults) (start_state None from) (run (moved next true items) macros)
        (run' (written next true items) macros) leads leads' (due next limit))

    -- the prologue, and then the item
    prologued : (item : Entry) (items : List Entry) → After (item ∷ items) → (place limit : ℕ)
        → EndAlike
        (run (moved (place_behind place (prologue panel request)) false (item ∷ items)) (no_macros limit) (start_state None defaults))
        (run' (placed_from place (prologue panel request ++ pinned_items panel request false (item ∷ items)))
        (no_macros limit) (start_state None from))
    prologued item items more place limit =
        let macros : Store = no_macros limit in
        let rest : List Entry = pinned_items panel request false (item ∷ items) in
        let next : ℕ = place_behind place (prologue panel request) in
        let r : JobRun = run (moved next false (item ∷ items)) macros (start_state None defaults) in
        prologue_led printer flags origin panel request can finally' macros refl place rest r
        (subst (λ (t : State). EndAlike r (run' (placed_from next rest) macros t))
        (sym (prologue_pins printer flags origin panel request can finally' macros refl place rest asks trayed))
        (more next macros (start_state None defaults) (record { bodies = tt; definition = tt }) (refl, refl, refl)))

    step_before : (item : Entry) (items : List Entry) → After (item ∷ items) → Before items → Before (item ∷ items)
    step_before Reset items more due place limit =
        still Reset items place limit (λ id. refl) (record { events = refl; ending = refl }) (record { events = refl; ending = refl }) due
    step_before ExitLanguage items more due place limit =
        still ExitLanguage items place limit (λ id. refl) (record { events = refl; ending = refl })
        (record { events = refl; ending = refl }) due
    step_before (PjlLine line) items more due place limit =
        still (PjlLine line) items place limit (λ id. refl) (record { events = refl; ending = refl })
        (record { events = refl; ending = refl }) due
    step_before item items more due place limit = prologued item items more place limit

    pub whole_job : (items : List Entry) → AreAllPinnable items → After [] → Before [] → After items × Before items
    whole_job [] all last first = (last, first)
    whole_job (item ∷ items) all last first =
        let rest = whole_job items all.1 last first in
        let behind : After (item ∷ items) = step_after item items all.0 rest.0 rest.1 in
        (behind, step_before item items behind rest.1)

  -- ---- and what comes last

  -- the end of the bytes
  ends_after : (last : ℕ) → After (end_run printer defaults last) (end_run printer from last) []
  ends_after last place macros s p o =
      reset_then macros p s o last (λ store. at_end) (λ store. at_end) (λ closed room. record { events = refl; finding = refl; set = tt })

  ends_before : (last : ℕ) → Before (end_run printer defaults last) (end_run printer from last) []
  ends_before last place limit =
      both_led last (reset_run (in_job (here (no_macros limit))) (start_state None defaults))
      (reset_run (in_job (there (no_macros limit))) (start_state None from)) (start_state None defaults)
      (start_state None from) at_end at_end
      (record { events = refl; ending = refl }) (record { events = refl; ending = refl })
      (λ room. record { events = refl; finding = refl; set = tt })

  -- A job as it stands when it is pinned, from this panel, and the pinned job from any: the same events, and the same finding at the
  -- same place, unless the pinned job, whose bodies are longer, has no room for them.
  whole_alike : (items : List Entry) (last : ℕ) → AreAllPinnable items
      → EndAlike
      (items_run printer defaults (end_run printer defaults last) (moved_from panel request 0 true items) (no_macros printer.memory)
      (start_state None defaults))
      (items_run printer from (end_run printer from last) (placed_from 0 (pinned_items panel request true items))
      (no_macros printer.memory) (start_state None from))
  whole_alike items last all =
      (whole_job (end_run printer defaults last) (end_run printer from last) items all (ends_after last) (ends_before last)).1 0
      printer.memory

  -- the same of a printer that does not limit the items of macros
  pub unlimited_alike : (items : List Entry) (last : ℕ) → printer.most_items ≡ None → AreAllPinnable items
      → EndAlike
      (items_run printer defaults (end_run printer defaults last) (moved_from panel request 0 true items) (no_macros printer.memory)
      (start_state printer.most_items defaults))
      (items_run printer from (end_run printer from last) (placed_from 0 (pinned_items panel request true items)) (no_macros printer.memory)
      (start_state printer.most_items from))
  unlimited_alike items last none all =
      subst
      (λ (left : Option ℕ). EndAlike
      (items_run printer defaults (end_run printer defaults last) (moved_from panel request 0 true items) (no_macros printer.memory)
      (start_state left defaults))
      (items_run printer from (end_run printer from last) (placed_from 0 (pinned_items panel request true items))
      (no_macros printer.memory) (start_state left from)))
      (sym none)
      (whole_alike items last all)
