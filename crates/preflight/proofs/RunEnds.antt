-- How a run ends, by what its items find.
use Rattle.std.proofs.Common.{◌≡◌, ℕ, List, [], ◌∷◌, Option, None, Some, refl, ap, ◌∙◌}
use Rattle.pcl_items.specs.Items.{Placed}
use Rattle.pcl_lexer.specs.Reading.{Reading, Whole, Stopped}
use Rattle.device_profile.specs.declared.panel.Panel.{Panel}
use Rattle.device_profile.specs.Printer.{Printer}
use Rattle.macro_store.specs.Store.{Store, no_macros}
use Rattle.page_env.specs.declared.finding.Finding.{Finding}
use Rattle.page_env.specs.Settings.{Flags, Settings, State, start_state, user_defaults}
use Rattle.page_machine.specs.Event.{Event}
use Rattle.page_machine.specs.Run.{Peaks, Run, Ending, Done, Halts}
use Rattle.page_machine.specs.Defining.{job_item_run, macros_after, job_end_run}
use Rattle.page_machine.specs.Job.{ItemRun, JobRun, at_end, no_end, ended_item, with_macros, items_run, end_run, run_from}
use Rattle.page_machine.specs.Laws.{IsSet}
use Rattle.page_machine.specs.Pinning.{found_at, finding_of}
use Rattle.preflight.proofs.Side.{Agreed}

-- ---- what holds at the end, and of an item and what follows where it holds of what follows, holds of every run

abbrev pub IsCarriedOn : (JobRun → Type 0) → Type 0
IsCarriedOn P =
    (place : ℕ) (events : List Event) (peaks : Peaks) (ending : Ending) (next : State → JobRun) → ((s : State) → P (next s)) →
    P (ended_item place events peaks ending next)

module _ (P : JobRun → Type 0) (executed_on : IsCarriedOn P) (last : (s : State) → P (at_end s)) (printer : Printer) where
  of_items : (defaults : Settings) (finally : Store → State → JobRun) → ((macros : Store) (s : State) → P (finally macros s)) →
      (items : List Placed) (macros : Store) (s : State) → P (items_run printer defaults finally items macros s)
  of_items defaults finally h [] macros s = h macros s
  of_items defaults finally h (x ∷ items) macros s =
      let r : Run = job_item_run (with_macros printer defaults macros) x.item s in
      let next : Store = macros_after s.settings.job.macro_id x.item macros in
      executed_on x.place r.events r.peaks r.ending (items_run printer defaults finally items next) (of_items defaults finally h items next)

  of_end : (defaults : Settings) (place : ℕ) (macros : Store) (s : State) → P (end_run printer defaults place macros s)
  of_end defaults place macros s =
      let r : Run = job_end_run (with_macros printer defaults macros) s in
      executed_on place r.events r.peaks r.ending at_end last

  pub of_every_run : (flags : Flags) (panel : Panel) (reading : Reading) → P (run_from printer flags panel reading)
  of_every_run flags panel (Whole items place) =
      let d : Settings = user_defaults flags panel in
      of_items d (end_run printer d place) (of_end d place) items (no_macros printer.memory) (start_state printer.most_items d)
  of_every_run flags panel (Stopped items place cause) =
      let d : Settings = user_defaults flags panel in
      of_items d no_end (λ macros s. last s) items (no_macros printer.memory) (start_state printer.most_items d)

-- ---- a run that finds nothing comes to its end

abbrev pub Ends : Ending → Type 0
Ends (Done s) = Unit {0}
Ends (Halts finding) = ⊥

pub set_of : (e : Ending) → Ends e → IsSet e
set_of (Done s) ends = tt
set_of (Halts finding) ends = absurd ends

pub end_of : (e : Ending) → Ends e → (s : State) × (e ≡ Done s)
end_of (Done s) ends = (s, refl)
end_of (Halts finding) ends = absurd ends

abbrev EndsWithout : JobRun → Type 0
EndsWithout r = finding_of r.items ≡ None → Ends r.ending

without_carried : IsCarriedOn EndsWithout
without_carried place events peaks (Done s) next rest = rest s
without_carried place events peaks (Halts finding) next rest = λ e. absurd cc

pub ends_without : (printer : Printer) (flags : Flags) (panel : Panel) (reading : Reading) →
    EndsWithout (run_from printer flags panel reading)
ends_without printer flags panel reading = of_every_run EndsWithout without_carried (λ s e. tt) printer flags panel reading

-- ---- items that agree find nothing

pub no_finding : (items : List ItemRun) → Agreed items → finding_of items ≡ None
no_finding [] agreed = refl
no_finding (x ∷ items) agreed = ap (λ o. found_at x.place o (finding_of items)) agreed.0 ∙ no_finding items agreed.1

-- ---- a finding ends a run

abbrev pub HaltsThere : JobRun → Type 0
HaltsThere r = (place : ℕ) (finding : Finding) → finding_of r.items ≡ Some (place, finding) → r.ending ≡ Halts finding

pair_is : (a b : ℕ) (f g : Finding) → ◌≡◌ {A = Option (ℕ × Finding)} (Some (a, f)) (Some (b, g)) → f ≡ g
pair_is a b f g e = let h : ◌≡◌ {A = ℕ × Finding} (a, f) (b, g) = cc in ap (λ p. p.1) h

halts_carried : IsCarriedOn HaltsThere
halts_carried place events peaks (Done s) next rest = rest s
halts_carried place events peaks (Halts finding) next rest = λ at found e. ap Halts (pair_is place at finding found e)

pub halts_there : (printer : Printer) (flags : Flags) (panel : Panel) (reading : Reading) →
    HaltsThere (run_from printer flags panel reading)
halts_there printer flags panel reading = of_every_run HaltsThere halts_carried (λ s place finding e. absurd cc) printer flags panel reading
