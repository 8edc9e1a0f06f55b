-- Where items stand changes nothing in their run; and nothing is unset in a plain one.
use Rattle.std.proofs.Common.{◌≡◌, ℕ, zero, suc, Bool, true, List, [], ◌∷◌, None, Some, refl, ap, ◌∙◌, subst}
use Rattle.std.proofs.lemmas.Bool.{false≢true}
use Rattle.pcl_items.specs.Items.{Entry, Placed, entries}
use Rattle.pcl_lexer.specs.Reading.{Reading}
use Rattle.device_profile.specs.declared.field.Field.{Field}
use Rattle.device_profile.specs.declared.field.Field.TheVariants.{Size, Orientation, Vmi, Font, Copies, Sides, Tray, LineTerm}
use Rattle.device_profile.specs.declared.font.FontRequest.{FontRequest}
use Rattle.device_profile.specs.declared.panel.Panel.{Panel}
use Rattle.device_profile.specs.Printer.{Printer}
use Rattle.macro_store.specs.Store.{Store, no_macros}
use Rattle.page_env.specs.declared.finding.Finding.{Finding}
use Rattle.page_env.specs.declared.finding.Finding.TheVariants.{Unset}
use Rattle.page_env.specs.Settings.{Flags, Settings, State, start_state, unwatched, user_defaults}
use Rattle.page_env.specs.Untouched.{is_flagged}
use Rattle.page_machine.specs.Event.{Event}
use Rattle.page_machine.specs.Run.{Peaks, Run, Ending, Done, Halts}
use Rattle.page_machine.specs.Defining.{job_item_run, macros_after, job_end_run}
use Rattle.page_machine.specs.Job.{JobRun, at_end, begun_with, one_item, ended_item, with_macros, items_run, end_run, plain_run}
use Rattle.page_machine.specs.Laws.{IsNotUnset, IsSet}
use Rattle.page_machine.specs.Pinning.{written_before, written_behind, is_due_behind, place_behind, moved_from}
use Rattle.page_machine.specs.Reached.{FindsBehind, UnsetIsRead}
use Rattle.promises.specs.Laws.{unplaced_run, RunAlike}
use Rattle.preflight.proofs.RunEnds.{of_every_run}

-- ---- wherever items stand

ended_unplaced : (place place' : ℕ) (events : List Event) (peaks : Peaks) (e : Ending) (next next' : State → JobRun) →
    ((s : State) → unplaced_run (next' s) ≡ unplaced_run (next s)) →
    unplaced_run (ended_item place' events peaks e next') ≡ unplaced_run (ended_item place events peaks e next)
ended_unplaced place place' events peaks (Done s) next next' rest = ap (begun_with (one_item 0 events None) peaks) (rest s)
ended_unplaced place place' events peaks (Halts finding) next next' rest = refl

heads : (a b : Entry) (xs ys : List Entry) → b ∷ ys ≡ a ∷ xs → (b ≡ a) × (ys ≡ xs)
heads a b xs ys e = (cc, cc)

module _ (printer : Printer) (defaults : Settings) (place place' : ℕ) where
  end_unplaced : (macros : Store) (s : State) →
      unplaced_run (end_run printer defaults place' macros s) ≡ unplaced_run (end_run printer defaults place macros s)
  end_unplaced macros s =
      let r : Run = job_end_run (with_macros printer defaults macros) s in
      ended_unplaced place place' r.events r.peaks r.ending at_end at_end (λ t. refl)

  items_unplaced : (items others : List Placed) → entries others ≡ entries items → (macros : Store) (s : State) →
      unplaced_run (items_run printer defaults (end_run printer defaults place') others macros s)
      ≡ unplaced_run (items_run printer defaults (end_run printer defaults place) items macros s)
  items_unplaced [] [] e macros s = end_unplaced macros s
  items_unplaced [] (y ∷ others) e macros s = absurd cc
  items_unplaced (x ∷ items) [] e macros s = absurd cc
  items_unplaced (x ∷ items) (y ∷ others) e macros s =
      let same = heads x.item y.item (entries items) (entries others) e in
      let r : Run = job_item_run (with_macros printer defaults macros) x.item s in
      let next : Store = macros_after s.settings.job.macro_id x.item macros in
      let rest : State → JobRun = items_run printer defaults (end_run printer defaults place') others next in
      ap
      (λ item. unplaced_run
      (let q : Run =
      job_item_run (with_macros printer defaults macros) item s in ended_item y.place q.events q.peaks q.ending
      (items_run printer defaults (end_run printer defaults place') others (macros_after s.settings.job.macro_id item macros))))
      same.0
      ∙ ended_unplaced x.place y.place r.events r.peaks r.ending
      (items_run printer defaults (end_run printer defaults place) items next) rest (items_unplaced items others same.1 next)

pub run_alike : (items others : List Placed) → RunAlike items others
run_alike items others e printer flags panel place place' =
    let defaults : Settings = user_defaults flags panel in
    items_unplaced printer defaults place place' items others e (no_macros printer.memory) (start_state printer.most_items defaults)

pub moved_entries : (panel : Panel) (request : FontRequest) (place : ℕ) (due : Bool) (items : List Entry) →
    entries (moved_from panel request place due items) ≡ items
moved_entries panel request place due [] = refl
moved_entries panel request place due (item ∷ items) =
    ap (λ rest. item ∷ rest)
    (moved_entries panel request
    (place_behind (place_behind (place_behind place (written_before panel request due item)) (item ∷ [])) (written_behind panel item))
    (is_due_behind due item) items)

-- ---- nothing is unset in a plain run

-- a run that halts has an item that finds so
abbrev HasItsFinding : JobRun → Type 0
HasItsFinding r = (finding : Finding) → r.ending ≡ Halts finding → (count_before : ℕ) × (place : ℕ) ×
    FindsBehind count_before place finding r.items

halts : (a b : Finding) → Halts a ≡ Halts b → Some a ≡ Some b
halts a b e = cc

finding_carried : (place : ℕ) (events : List Event) (peaks : Peaks) (e : Ending) (next : State → JobRun) →
    ((s : State) → HasItsFinding (next s)) → HasItsFinding (ended_item place events peaks e next)
finding_carried place events peaks (Done s) next rest finding e =
    let its = rest s finding e in
    (suc its.0, its.1, (refl, its.2))
finding_carried place events peaks (Halts f) next rest finding e = (zero, place, (halts f finding e, refl))

has_its_finding : (printer : Printer) (panel : Panel) (reading : Reading) → HasItsFinding (plain_run printer panel reading)
has_its_finding printer panel reading =
    of_every_run HasItsFinding finding_carried (λ s finding e. absurd cc) printer unwatched panel reading

not_watched : (field : Field) → is_flagged unwatched field ≡ true → ⊥
not_watched Size e = false≢true e
not_watched Orientation e = false≢true e
not_watched Vmi e = false≢true e
not_watched Font e = false≢true e
not_watched Copies e = false≢true e
not_watched Sides e = false≢true e
not_watched Tray e = false≢true e
not_watched LineTerm e = false≢true e

is_not_unset : (finding : Finding) → ((field : Field) → finding ≡ Unset field → ⊥) → IsNotUnset finding
is_not_unset (Unset field) h = h field refl
is_not_unset _ h = tt

pub plain_is_set : ((printer : Printer) (flags : Flags) (panel : Panel) (reading : Reading) → UnsetIsRead printer flags panel reading) →
    (printer : Printer) (panel : Panel) (reading : Reading) → IsSet (plain_run printer panel reading).ending
plain_is_set unset printer panel reading = by (plain_run printer panel reading).ending refl
  where
    by : (e : Ending) → (plain_run printer panel reading).ending ≡ e → IsSet e
    by (Done s) is = tt
    by (Halts finding) is = is_not_unset finding (λ field same.
        let its = has_its_finding printer panel reading finding is in
        not_watched field
        (unset printer unwatched panel reading its.0 its.1 field
        (subst (λ f. FindsBehind its.0 its.1 f (plain_run printer panel reading).items) same its.2)).0)
