-- Items of a job, and the macros that they store, go alike where the job has set all that the panel chooses.
use Rattle.std.proofs.Common.{◌≡◌, ℕ, ◌+◌, ◌≤◌, nat_lt, nat_eq, length, Bool, true, false, cond, is_some, List, [], ◌∷◌, ◌++◌, refl, ap}
use Rattle.std.proofs.Common.{sym, ◌∙◌, subst, ltb-false, le-ltb, Option, Some, None, option_map}
use Rattle.std.specs.List.{AllByRecursion}
use Rattle.std.specs.Map.{lookup, remove_entry}
use Rattle.std.proofs.Math.Nat.{le_refl, le_trans, add-le-add}
use Rattle.pcl_items.specs.declared.pcl.command.Command.TheVariants.{Orientation}
use Rattle.pcl_items.specs.Spellings.Canon.{canon}
use Rattle.pcl_items.specs.Items.{Entry, Parameterized}
use Rattle.pcl_items.specs.Escapes.Value.{Amount}
use Rattle.device_profile.specs.Printer.{Printer}
use Rattle.macro_store.specs.Store.{Store, stored_bytes, with_item, appended, bodies_with, cleared}
use Rattle.page_env.specs.declared.finding.Finding.TheVariants.{MacroMemory, DefinitionOpen}
use Rattle.page_env.specs.declared.macros.Control.{Control}
use Rattle.page_env.specs.declared.macros.Control.TheVariants.{Begin, DeleteAll, Delete}
use Rattle.page_env.specs.Effect.{check, first_finding}
use Rattle.page_env.specs.Settings.{Settings, State}
use Rattle.page_env.specs.Pinned.{is_orientation, pinned, returns_to_panel, IsBare}
use Rattle.page_machine.specs.declared.defining.Defining.{Defining}
use Rattle.page_machine.specs.declared.defining.Defining.TheVariants.{Refused, Completed, Stored}
use Rattle.page_machine.specs.declared.nesting.Nesting.{Nesting}
use Rattle.page_machine.specs.declared.nesting.Nesting.TheVariants.{Job}
use Rattle.page_machine.specs.Event.{Event}
use Rattle.page_machine.specs.Run.{Peaks, Run, just, after, onward, followed_by, finding_or, Ending, Done, Halts, item_run}
use Rattle.page_machine.specs.Macros.{MacroContext, in_job, body_run, page_close}
use Rattle.page_machine.specs.Pinning.{spacing, FindsRoom}
use Rattle.page_env.specs.JobControl.{is_reset}
use Rattle.page_machine.specs.Defining.{control_in, defining_of, of_memory, defining_run, defined_after, controlled_after, carried_after}
use Rattle.page_machine.specs.Defining.{is_defining, job_item_run, macros_after}
use Rattle.page_machine.specs.Job.{with_macros}
use Rattle.page_machine.proofs.PinnedRuns.{Alike, done_alike, halts_alike}
use Rattle.page_machine.proofs.PinnedBodies.{CanBePinned, AreAllPinned, AreLaws, ArePinnedDefaults, ArePinnedMacros, body_alike}
use Rattle.page_machine.proofs.PinnedBodies.{nested_alike, nested_turn}
use Rattle.page_machine.proofs.PinnedStore.{pin_entry, pinned_store, appended_all, IsPinnedDefinition, body_pinned, began_pinned}
use Rattle.page_machine.proofs.PinnedStore.{deleted_pinned, committed_pinned, appended_pinned, stored_le}

-- ---- unless memory ends the second

-- where the second, whose bodies are longer, has room for them
abbrev pub AlikeInRoom : Printer → Settings → Run → Run → Type 0
AlikeInRoom printer from r r' = FindsRoom r'.ending → Alike printer from r r'

pub onward_room : (events : List Event) (peaks : Peaks) (e : Ending) (next : State → Run) → FindsRoom (onward events peaks e next).ending →
    FindsRoom e
onward_room events peaks (Done s) next room = tt
onward_room events peaks (Halts finding) next room = room

-- ---- a store whose items can be pinned

abbrev pub AreAllBodiesPinned : List (ℕ × List Entry) → Type 0
AreAllBodiesPinned bodies = AllByRecursion (λ m. AreAllPinned m.1) bodies

pub record IsPinnable (store : Store) : Type 0 where
  pub bodies : AreAllBodiesPinned store.bodies
  pub definition : IsPinnedDefinition store.definition

found_all : (id : ℕ) (bodies : List (ℕ × List Entry)) → AreAllBodiesPinned bodies → (body : List Entry) →
    lookup (nat_eq id) bodies ≡ Some body → AreAllPinned body
found_all id [] all body e = absurd cc
found_all id (m ∷ bodies) all body e = by (nat_eq id m.0) (found_all id bodies all.1 body) e
  where
    by : (b : Bool) → (lookup (nat_eq id) bodies ≡ Some body → AreAllPinned body) →
        cond b (Some m.1) (lookup (nat_eq id) bodies) ≡ Some body → AreAllPinned body
    by true more e = let same : m.1 ≡ body = cc in subst AreAllPinned same all.0
    by false more e = more e

removed_all : (id : ℕ) (bodies : List (ℕ × List Entry)) → AreAllBodiesPinned bodies → AreAllBodiesPinned (remove_entry (nat_eq id) bodies)
removed_all id [] all = tt
removed_all id (m ∷ bodies) all = by (nat_eq id m.0) (removed_all id bodies all.1)
  where
    by : (b : Bool) → AreAllBodiesPinned (remove_entry (nat_eq id) bodies) →
        AreAllBodiesPinned (cond b bodies (m ∷ remove_entry (nat_eq id) bodies))
    by true more = all.1
    by false more = (all.0, more)

pushed_all : (items : List Entry) (item : Entry) → AreAllPinned items → CanBePinned item → AreAllPinned (items ++ item ∷ [])
pushed_all [] item all one = (one, tt)
pushed_all (x ∷ items) item all one = (all.0, pushed_all items item all.1 one)

with_all : (bodies : List (ℕ × List Entry)) (definition : Option (ℕ × List Entry)) → AreAllBodiesPinned bodies →
    IsPinnedDefinition definition → AreAllBodiesPinned (bodies_with bodies definition)
with_all bodies None all one = all
with_all [] (Some m) all one = (one, tt)
with_all (x ∷ bodies) (Some m) all one = (all.0, with_all bodies (Some m) all.1 one)

pub appended_pinnable : (item : Entry) (store : Store) → CanBePinned item → IsPinnable store → IsPinnable (appended item store)
appended_pinnable item store one p = record { bodies = p.bodies; definition = by store.definition p.definition }
  where
    by : (d : Option (ℕ × List Entry)) → IsPinnedDefinition d → IsPinnedDefinition (with_item item d)
    by None all = tt
    by (Some m) all = pushed_all m.1 item all one

-- what a control of the job leaves
controlled_pinnable : (id : ℕ) (control : Option Control) (store : Store) → IsPinnable store →
    IsPinnable (controlled_after id control store)
controlled_pinnable id (Some Begin) store p = record { bodies = removed_all id store.bodies p.bodies; definition = tt }
controlled_pinnable id (Some DeleteAll) store p = record { bodies = tt; definition = p.definition }
controlled_pinnable id (Some Delete) store p = record { bodies = removed_all id store.bodies p.bodies; definition = p.definition }
controlled_pinnable id _ store p = p

defined_pinnable : (item : Entry) (d : Defining) (store : Store) → CanBePinned item → IsPinnable store →
    IsPinnable (defined_after item d store)
defined_pinnable item Refused store one p = p
defined_pinnable item Completed store one p =
    record { bodies = with_all store.bodies store.definition p.bodies p.definition; definition = tt }
defined_pinnable item Stored store one p = appended_pinnable item store one p

carried_pinnable : (b : Bool) (id : ℕ) (control : Option Control) (store : Store) → IsPinnable store →
    IsPinnable (cond b (cleared store) (controlled_after id control store))
carried_pinnable true id control store p = record { bodies = tt; definition = p.definition }
carried_pinnable false id control store p = controlled_pinnable id control store p

pub after_pinnable : (id : ℕ) (item : Entry) (store : Store) → CanBePinned item → IsPinnable store → IsPinnable (macros_after id item store)
after_pinnable id item store one p = by (is_defining store)
  where
    by : (b : Bool) → IsPinnable (cond b (defined_after item (defining_of item) store) (carried_after id item store))
    by true = defined_pinnable item (defining_of item) store one p
    by false = carried_pinnable (is_reset item) id (control_in item) store p

-- ---- the macros behind an item

module _ (v : ℕ) where
  pub defining_same : (store : Store) → is_defining (pinned_store v store) ≡ is_defining store
  defining_same store = by store.definition
    where
      by : (d : Option (ℕ × List Entry)) → is_some (option_map (pin_entry v) d) ≡ is_some d
      by None = refl
      by (Some m) = refl

  controlled_same : (id : ℕ) (control : Option Control) (store : Store) →
      controlled_after id control (pinned_store v store) ≡ pinned_store v (controlled_after id control store)
  controlled_same id (Some Begin) store = began_pinned v id store
  controlled_same id (Some DeleteAll) store = refl
  controlled_same id (Some Delete) store = deleted_pinned v id store
  controlled_same id _ store = refl

  carried_same : (b : Bool) (id : ℕ) (control : Option Control) (store : Store) →
      cond b (cleared (pinned_store v store)) (controlled_after id control (pinned_store v store))
      ≡ pinned_store v (cond b (cleared store) (controlled_after id control store))
  carried_same true id control store = refl
  carried_same false id control store = controlled_same id control store

  stored_same : (item : Entry) (store : Store) → is_orientation item ≡ false →
      appended item (pinned_store v store) ≡ pinned_store v (appended item store)
  stored_same item store plain =
      ap (λ (b : Bool). appended_all (item ∷ cond b (spacing v ∷ []) []) (pinned_store v store)) (sym plain)
      ∙ sym (appended_pinned v item store)

  defined_same : (item : Entry) (d : Defining) (store : Store) → is_orientation item ≡ false →
      defined_after item d (pinned_store v store) ≡ pinned_store v (defined_after item d store)
  defined_same item Refused store plain = refl
  defined_same item Completed store plain = committed_pinned v store
  defined_same item Stored store plain = stored_same item store plain

  -- an item with nothing behind it
  pub after_same : (id : ℕ) (item : Entry) (store : Store) → is_orientation item ≡ false →
      macros_after id item (pinned_store v store) ≡ pinned_store v (macros_after id item store)
  after_same id item store plain =
      ap
      (λ (b : Bool). cond b (defined_after item (defining_of item) (pinned_store v store)) (carried_after id item (pinned_store v store)))
      (defining_same store)
      ∙ by (is_defining store)
    where
      by : (b : Bool) →
          cond b (defined_after item (defining_of item) (pinned_store v store)) (carried_after id item (pinned_store v store))
          ≡ pinned_store v (cond b (defined_after item (defining_of item) store) (carried_after id item store))
      by true = defined_same item (defining_of item) store plain
      by false = carried_same (is_reset item) id (control_in item) store

-- ---- items of a job

module _ (printer : Printer) (from : Settings) where
  -- the room for an item
  abbrev storing : Bool → Peaks → State → Run
  storing full peaks s = finding_or (first_finding (check full MacroMemory ∷ [])) (after [] peaks (just [] (Done s)))

  stored_alike : (full full' : Bool) (peaks peaks' : Peaks) (s : State) → IsBare s → (full' ≡ false → full ≡ false) →
      AlikeInRoom printer from (storing full peaks s) (storing full' peaks' (pinned printer from s))
  stored_alike full true peaks peaks' s o le room = absurd room
  stored_alike true false peaks peaks' s o le room = absurd (let no : true ≡ false = le refl in cc)
  stored_alike false false peaks peaks' s o le room = record { events = refl; ending = refl; bare = o; set = tt }

  -- a store with more in it is full sooner
  pub full_later : (limit bytes more size : ℕ) → bytes ≤ more → nat_lt limit (more + size) ≡ false → nat_lt limit (bytes + size) ≡ false
  full_later limit bytes more size le fits =
      le-ltb limit (bytes + size) (le_trans (add-le-add le (le_refl size)) (ltb-false limit (more + size) fits))

  defining_alike : (v : ℕ) (item : Entry) (d : Defining) (macros : Store) (s : State) → IsBare s →
      AlikeInRoom printer from (defining_run macros item d s) (defining_run (pinned_store v macros) item d (pinned printer from s))
  defining_alike v item Refused macros s o = λ room. halts_alike printer from DefinitionOpen tt
  defining_alike v item Completed macros s o = λ room. done_alike printer from s o
  defining_alike v item Stored macros s o =
      stored_alike (nat_lt macros.limit (stored_bytes macros + length (canon item)))
      (nat_lt macros.limit (stored_bytes (pinned_store v macros) + length (canon item)))
      (of_memory (stored_bytes (appended item macros))) (of_memory (stored_bytes (appended item (pinned_store v macros)))) s o
      (full_later macros.limit (stored_bytes macros) (stored_bytes (pinned_store v macros)) (length (canon item)) (stored_le v macros))

  -- an item that is stored with the spacing behind it
  twice_stored : (full full' second : Bool) (peaks peaks' more : Peaks) (s : State) → IsBare s → (full' ≡ false → full ≡ false) →
      AlikeInRoom printer from (storing full peaks s) (followed_by (storing full' peaks' (pinned printer from s)) (storing second more))
  twice_stored full true second peaks peaks' more s o le room = absurd room
  twice_stored true false second peaks peaks' more s o le room = absurd (let no : true ≡ false = le refl in cc)
  twice_stored false false true peaks peaks' more s o le room = absurd room
  twice_stored false false false peaks peaks' more s o le room = record { events = refl; ending = refl; bare = o; set = tt }

  module _ (defaults : Settings) (laws : AreLaws printer defaults from) (v : ℕ) (d : ArePinnedDefaults v defaults from) where
    abbrev pub context : Store → MacroContext
    context macros = with_macros printer defaults macros

    abbrev pub pinned_context : Store → MacroContext
    pinned_context macros = with_macros printer from macros

    module _ (macros : Store) (p : IsPinnable macros) where
      abbrev pub others : Store
      others = pinned_store v macros

      pub known : ArePinnedMacros v macros others
      known = record { bodies = body_pinned v macros; all = λ id body e. found_all id macros.bodies p.bodies body e }

      abbrev inside : Nesting → List Entry → State → Run
      inside = body_run (context macros) (page_close (context macros)) printer.depth 1

      abbrev inside' : Nesting → List Entry → State → Run
      inside' = body_run (pinned_context others) (page_close (pinned_context others)) printer.depth 1

      carried_alike : (item : Entry) (s : State) → returns_to_panel item ≡ false → IsBare s →
          Alike printer from (item_run printer (in_job (context macros)) item s)
          (item_run printer (in_job (pinned_context others)) item (pinned printer from s))
      carried_alike =
          nested_alike printer defaults from laws v d macros others known inside inside'
          (body_alike printer defaults from laws v d macros others known printer.depth 1) Job

      carried_turn : (n : Amount) (s : State) → IsBare s →
          Alike printer from (item_run printer (in_job (context macros)) (Parameterized Orientation n) s)
          (followed_by (item_run printer (in_job (pinned_context others)) (Parameterized Orientation n) (pinned printer from s))
          (item_run printer (in_job (pinned_context others)) (spacing v)))
      carried_turn =
          nested_turn printer defaults from laws v d macros others known inside inside'
          (body_alike printer defaults from laws v d macros others known printer.depth 1) Job

      -- an item with nothing behind it
      pub job_item_alike : (item : Entry) (s : State) → returns_to_panel item ≡ false → IsBare s →
          AlikeInRoom printer from (job_item_run (context macros) item s)
          (job_item_run (pinned_context others) item (pinned printer from s))
      job_item_alike item s r o =
          subst
          (λ (b : Bool). AlikeInRoom printer from (job_item_run (context macros) item s)
          (cond b (defining_run others item (defining_of item) (pinned printer from s))
          (item_run printer (in_job (pinned_context others)) item (pinned printer from s))))
          (sym (defining_same v macros))
          (by (is_defining macros))
        where
          by : (b : Bool) →
              AlikeInRoom printer from
              (cond b (defining_run macros item (defining_of item) s) (item_run printer (in_job (context macros)) item s))
              (cond b (defining_run others item (defining_of item) (pinned printer from s))
              (item_run printer (in_job (pinned_context others)) item (pinned printer from s)))
          by true = defining_alike v item (defining_of item) macros s o
          by false = λ room. carried_alike item s r o

      -- ---- an orientation with the spacing behind it

      -- the macros behind an orientation, and behind the spacing behind it
      abbrev pub turned : Bool → Amount → Store
      turned b n = cond b (appended (Parameterized Orientation n) others) others

      open_behind : (n : Amount) → is_defining macros ≡ true → is_defining (turned true n) ≡ true
      open_behind n e = by others.definition (defining_same v macros ∙ e)
        where
          by : (found : Option (ℕ × List Entry)) → is_some found ≡ true → is_some (with_item (Parameterized Orientation n) found) ≡ true
          by None e = absurd cc
          by (Some m) e = refl

      -- the spacing, from these macros
      abbrev pub spaced_run : Store → State → Run
      spaced_run store t = job_item_run (pinned_context store) (spacing v) t

      -- the orientation of the pinned job, where a definition is open or not
      abbrev turn : Bool → Amount → State → Run
      turn b n s =
          cond b (defining_run others (Parameterized Orientation n) Stored (pinned printer from s))
          (item_run printer (in_job (pinned_context others)) (Parameterized Orientation n) (pinned printer from s))

      turned_when : (b : Bool) (n : Amount) (s : State) → is_defining macros ≡ b → IsBare s →
          AlikeInRoom printer from
          (cond b (defining_run macros (Parameterized Orientation n) Stored s)
          (item_run printer (in_job (context macros)) (Parameterized Orientation n) s))
          (followed_by (turn b n s) (spaced_run (turned b n)))
      turned_when true n s e o =
          let item : Entry = Parameterized Orientation n in
          let store : Store = turned true n in
          let first : Run = defining_run macros item Stored s in
          subst
          (λ (b : Bool). AlikeInRoom printer from first (followed_by (turn true n s) (λ t.
          cond b (defining_run store (spacing v) Stored t) (item_run printer (in_job (pinned_context store)) (spacing v) t))))
          (sym (open_behind n e))
          (twice_stored (nat_lt macros.limit (stored_bytes macros + length (canon item)))
          (nat_lt macros.limit (stored_bytes others + length (canon item)))
          (nat_lt macros.limit (stored_bytes store + length (canon (spacing v))))
          (of_memory (stored_bytes (appended item macros))) (of_memory (stored_bytes (appended item others)))
          (of_memory (stored_bytes (appended (spacing v) store))) s o
          (full_later macros.limit (stored_bytes macros) (stored_bytes others) (length (canon item)) (stored_le v macros)))
      turned_when false n s e o =
          let first : Run = item_run printer (in_job (context macros)) (Parameterized Orientation n) s in
          subst
          (λ (b : Bool). AlikeInRoom printer from first (followed_by (turn false n s) (λ t.
          cond b (defining_run others (spacing v) Stored t) (item_run printer (in_job (pinned_context others)) (spacing v) t))))
          (sym (defining_same v macros ∙ e))
          (λ room. carried_turn n s o)

      pub job_turn_alike : (n : Amount) (s : State) → IsBare s →
          AlikeInRoom printer from (job_item_run (context macros) (Parameterized Orientation n) s)
          (followed_by (job_item_run (pinned_context others) (Parameterized Orientation n) (pinned printer from s))
          (spaced_run (turned (is_defining others) n)))
      job_turn_alike n s o =
          subst
          (λ (b : Bool). AlikeInRoom printer from (job_item_run (context macros) (Parameterized Orientation n) s)
          (followed_by (turn b n s) (spaced_run (turned b n))))
          (sym (defining_same v macros))
          (turned_when (is_defining macros) n s refl o)

      -- the macros behind both are those of the job, pinned
      pub turned_same : (n : Amount) →
          macros_after 0 (spacing v) (turned (is_defining others) n) ≡ pinned_store v (macros_after 0 (Parameterized Orientation n) macros)
      turned_same n = ap (λ (b : Bool). macros_after 0 (spacing v) (turned b n)) (defining_same v macros) ∙ by (is_defining macros) refl
        where
          by : (b : Bool) → is_defining macros ≡ b →
              macros_after 0 (spacing v) (turned b n) ≡ pinned_store v (cond b (appended (Parameterized Orientation n) macros) macros)
          by true e =
              ap (λ (b : Bool). cond b (appended (spacing v) (turned true n)) (turned true n)) (open_behind n e)
              ∙ sym (appended_pinned v (Parameterized Orientation n) macros)
          by false e = ap (λ (b : Bool). cond b (appended (spacing v) others) others) (defining_same v macros ∙ e)
