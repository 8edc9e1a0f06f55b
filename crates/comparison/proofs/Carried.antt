-- What an item does on a machine that knows its panel, and what is still to come of the job behind it.
use Rattle.std.proofs.Common.{◌≡◌, ℕ, false, unwrap_or, List, [], ◌++◌, Option, None, Some, refl, ap, sym, ◌∙◌, subst, append-nil}
use Rattle.pcl_items.specs.declared.item.Mode.{Mode}
use Rattle.pcl_items.specs.Modes.{follows}
use Rattle.pcl_items.specs.Items.{Placed}
use Rattle.pcl_lexer.specs.Lexing.State.{LexerState}
use Rattle.pcl_lexer.specs.Reading.{Reading, Whole, Stopped, with_item}
use Rattle.device_profile.specs.declared.panel.Panel.{Panel}
use Rattle.device_profile.specs.Printer.{Printer}
use Rattle.page_env.specs.declared.finding.Finding.{Finding}
use Rattle.page_env.specs.Settings.{Settings, State, settings_at, state_at, start_state, user_defaults, unwatched}
use Rattle.page_machine.specs.declared.machine.Start.TheVariants.{At}
use Rattle.page_machine.specs.Event.{Event, TakesAll}
use Rattle.page_machine.specs.Follows.{TakesUpTo}
use Rattle.page_machine.specs.Job.{ItemRun, JobRun, after_item, at_end, plain_run, reading_run}
use Rattle.page_machine.specs.Machine.{IsNew, item_of, end_of as end_carried}
use Rattle.page_machine.specs.MachineState.{MachineState}
use Rattle.page_machine.specs.Run.{Peaks, Run, just, after, Done, Halts}
use Rattle.sinks.proofs.Recording.{TakesAll-recorded, recorder_takes}
use Rattle.sinks.specs.Recorder.{Recorded}
use Rattle.verdict.specs.declared.failure.Failure.{Failure}
use Rattle.verdict.specs.Failing.{found_at}
use Rattle.comparison.specs.declared.stepping.Stepped.{Stepped}
use Rattle.comparison.specs.declared.stepping.Stepped.TheVariants.{On, More, AtEnd, FailsBy, Refused}
use Rattle.comparison.specs.Comparison.{made_at, all_made, failure_on, failure_or, fault_of}
use Rattle.comparison.specs.Running.{CarriedTo, CarriesTo, ComesBy, EndsBy, EndsTo, LeavesOff, StepsBy, TakenBy, any_panel}
use Rattle.comparison.specs.Running.{rest_items}

same_fault : (x : Placed) (rest : Reading) → fault_of (with_item x rest) ≡ fault_of rest
same_fault x (Whole items place) = refl
same_fault x (Stopped items place cause) = refl

-- ---- an item's run, and then the next

module _ (number place : ℕ) (r : Run) (next : State → JobRun) (later : Option Failure) where
  -- the item was done
  made_done : (events : List Event) (peaks : Peaks) (s : State) → r ≡ after events peaks (just [] (Done s)) →
      all_made (after_item place r next).items ≡ made_at place events ++ all_made (next s).items
  made_done events peaks s e =
      ap (λ x. all_made (after_item place x next).items) e
      ∙ ap (λ es. made_at place es ++ all_made (next s).items) (append-nil events)

  failure_done : (events : List Event) (peaks : Peaks) (s : State) → r ≡ after events peaks (just [] (Done s)) →
      failure_or number (after_item place r next).items later ≡ failure_or number (next s).items later
  failure_done events peaks s e = ap (λ x. failure_or number (after_item place x next).items later) e

  -- it had a finding
  failure_found : (events : List Event) (peaks : Peaks) (finding : Finding) → r ≡ after events peaks (just [] (Halts finding)) →
      failure_or number (after_item place r next).items later ≡ Some (found_at place number finding)
  failure_found events peaks finding e = ap (λ x. failure_or number (after_item place x next).items later) e

-- ---- from a machine

module _ (number : ℕ) (machine : MachineState) where
  abbrev defaults : Settings
  defaults = settings_at any_panel machine.defaults

  abbrev behind_item : Placed → Reading → State → JobRun
  behind_item x rest s = reading_run machine.printer defaults rest (item_of machine x.item).macros s

  item_first : (x : Placed) (rest : Reading) →
      rest_items machine (with_item x rest) ≡ (after_item x.place ((item_of machine x.item).run any_panel) (behind_item x rest)).items
  item_first x (Whole items place) = refl
  item_first x (Stopped items place cause) = refl

  -- the item was carried out to its end
  pub item_carried : (x : Placed) (machine' : MachineState) (events : List Event) (peaks : Peaks) (next : Mode)
      → machine'
      ≡ record machine {
        page = machine'.page;
        macros = (item_of machine x.item).macros;
        mode = (item_of machine x.item).mode;
        stopped = false;
      }
      → follows machine.mode x.item ≡ Some next
      → (item_of machine x.item).run any_panel ≡ after events peaks (just [] (Done (state_at any_panel machine'.page)))
      → CarriedTo (On x.place) number x machine machine' events
  item_carried x machine' events peaks next is admitted run =
      let r : Run = (item_of machine x.item).run any_panel in
      let end : State = state_at any_panel machine'.page in
      let rest_is : (rest : Reading) → (behind_item x rest end).items ≡ rest_items machine' rest =
      λ rest. sym
      (ap (λ (m : MachineState). (reading_run m.printer (settings_at any_panel m.defaults) rest m.macros end).items) is) in
      let mode_is : machine'.mode ≡ next =
      ap (λ (m : MachineState). m.mode) is ∙ ap (λ o. unwrap_or o machine.mode) admitted in (
        refl,
        ap (λ (m : MachineState). m.stopped) is,
        admitted ∙ ap Some (sym mode_is),
        λ rest.
            ap all_made (item_first x rest)
            ∙ (made_done number x.place r (behind_item x rest) None events peaks end run
            ∙ ap (λ (items : List ItemRun). made_at x.place events ++ all_made items) (rest_is rest)),
        λ rest.
            ap (λ (items : List ItemRun). failure_on number items (with_item x rest)) (item_first x rest)
            ∙ (failure_done number x.place r (behind_item x rest) (fault_of (with_item x rest)) events peaks end run
            ∙ (ap (λ (items : List ItemRun). failure_or number items (fault_of (with_item x rest))) (rest_is rest)
            ∙ ap (failure_or number (rest_items machine' rest)) (same_fault x rest))),
      )

  -- it had a finding
  pub item_failing : (x : Placed) (machine' : MachineState) (finding : Finding) (events made : List Event) (peaks : Peaks)
      → (item_of machine x.item).run any_panel ≡ after events peaks (just [] (Halts finding))
      → CarriedTo (FailsBy (found_at x.place number finding)) number x machine machine' made
  item_failing x machine' finding events made peaks run = λ rest.
      ap (λ (items : List ItemRun). failure_on number items (with_item x rest)) (item_first x rest)
      ∙ failure_found number x.place ((item_of machine x.item).run any_panel) (behind_item x rest)
      (fault_of (with_item x rest)) events peaks finding run

  -- the end of the bytes was carried out
  pub end_done : (total : ℕ) (s : State) (events : List Event) (peaks : Peaks)
      → (end_carried machine).run any_panel ≡ after events peaks (just [] (Done s)) → EndsTo AtEnd number total machine events
  end_done total s events peaks run = (
    made_done number total ((end_carried machine).run any_panel) at_end None events peaks s run ∙ append-nil (made_at total events),
    failure_done number total ((end_carried machine).run any_panel) at_end None events peaks s run,
  )

  pub end_failing : (total : ℕ) (finding : Finding) (events made : List Event) (peaks : Peaks)
      → (end_carried machine).run any_panel ≡ after events peaks (just [] (Halts finding))
      → EndsTo (FailsBy (found_at total number finding)) number total machine made
  end_failing total finding events made peaks run =
      failure_found number total ((end_carried machine).run any_panel) at_end None events peaks finding run

-- ---- what a sink took of it

module _ {S : Type 0} (takes : S → Event → S → Type 0) (number : ℕ) (machine : MachineState) (sink sink' : S) where
  pub tells_item : (machine' : MachineState) (x : Placed) (next : Mode) → follows machine.mode x.item ≡ Some next
      → machine'
      ≡ record machine {
        page = machine'.page;
        macros = (item_of machine x.item).macros;
        mode = (item_of machine x.item).mode;
        stopped = false;
      }
      → TakesUpTo takes sink sink' (item_of machine x.item).run (λ panel. just [] (Done (state_at panel machine'.page)))
      → CarriesTo takes (On x.place) number x machine machine' sink sink'
  tells_item machine' x next admitted is took = record {
    events = took.events;
    taken = took.leads;
    carried = item_carried number machine x machine' took.events (took.peaks any_panel) next is admitted (took.is any_panel);
  }

  pub tells_finding : (machine' : MachineState) (x : Placed) (finding : Finding) →
      TakesUpTo takes sink sink' (item_of machine x.item).run (λ panel. just [] (Halts finding)) →
      CarriesTo takes (FailsBy (found_at x.place number finding)) number x machine machine' sink sink'
  tells_finding machine' x finding took = record {
    events = took.events;
    taken = took.leads;
    carried =
        item_failing number machine x machine' finding took.events took.events (took.peaks any_panel) (took.is any_panel);
  }

  pub tells_end : (total : ℕ) (s : Panel → State) →
      TakesUpTo takes sink sink' (end_carried machine).run (λ panel. just [] (Done (s panel))) →
      EndsBy takes AtEnd number total machine sink sink'
  tells_end total s took = record {
    events = took.events;
    taken = took.leads;
    ends = end_done number machine total (s any_panel) took.events (took.peaks any_panel) (took.is any_panel);
  }

  pub tells_end_finding : (total : ℕ) (finding : Finding) →
      TakesUpTo takes sink sink' (end_carried machine).run (λ panel. just [] (Halts finding)) →
      EndsBy takes (FailsBy (found_at total number finding)) number total machine sink sink'
  tells_end_finding total finding took = record {
    events = took.events;
    taken = took.leads;
    ends = end_failing number machine total finding took.events took.events (took.peaks any_panel) (took.is any_panel);
  }

-- an empty recorder has what it took
took_all : (old new : Recorded) (events : List Event) → old.events ≡ [] → TakesAll recorder_takes old events new → new.events ≡ events
took_all old new events empty took =
    ap (λ (r : Recorded). r.events) (TakesAll-recorded old new events took)
    ∙ ap (λ front. front ++ events) empty

-- so what holds of these events holds of what it has
as_recorded : (P : Stepped → List Event → Type 0) → ((events : List Event) → P Refused events) → (old new : Recorded)
    (events : List Event) → old.events ≡ [] → (stepped : Stepped) → TakenBy recorder_takes stepped old events new → P stepped events →
    P stepped new.events
as_recorded P refused old new events empty (On place) took h = subst (P (On place)) (sym (took_all old new events empty took)) h
as_recorded P refused old new events empty More took h = subst (P More) (sym (took_all old new events empty took)) h
as_recorded P refused old new events empty AtEnd took h = subst (P AtEnd) (sym (took_all old new events empty took)) h
as_recorded P refused old new events empty (FailsBy failure) took h =
    subst (P (FailsBy failure)) (sym (took_all old new events empty took)) h
as_recorded P refused old new events empty Refused took h = refused new.events

-- so came a step with it
module _ (number total : ℕ) (lexer : LexerState) (machine : MachineState) (stepped : Stepped) (lexer' : LexerState)
    (machine' : MachineState) (old new : Recorded) (empty : old.events ≡ [])
    (steps : StepsBy recorder_takes number total lexer machine stepped lexer' machine' old new) where
  pub came_recorded : ComesBy number total lexer machine stepped lexer' machine' new.events
  came_recorded =
      as_recorded (λ s events. ComesBy number total lexer machine s lexer' machine' events)
      (λ events printer panel bytes made total_is under. tt) old new steps.events empty stepped steps.taken steps.came

  pub leaves_recorded : LeavesOff stepped lexer lexer' machine' new.events
  leaves_recorded =
      as_recorded (λ s events. LeavesOff s lexer lexer' machine' events) (λ events. tt) old new steps.events empty stepped steps.taken
      steps.leaves

-- ---- the start

-- a machine that has carried out nothing has all of the job before it
pub rest_at_start : (printer : Printer) (panel : Panel) (machine : MachineState) → IsNew printer (At panel) machine → (reading : Reading) →
    rest_items machine reading ≡ (plain_run printer panel reading).items
rest_at_start printer panel machine new reading =
    let settings : Settings = user_defaults unwatched panel in
    let defaults_are : settings_at any_panel machine.defaults ≡ settings = new.defaults any_panel in
    let state_is : state_at any_panel machine.page ≡ start_state printer.most_items settings =
    new.page any_panel ∙ ap (start_state printer.most_items) defaults_are in
    λ i. (reading_run (new.printer_is i) (defaults_are i) reading (new.macros i) (state_is i)).items
