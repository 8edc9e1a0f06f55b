-- What stands here is about how the code searches pages; nothing of it has to be believed.
use Rattle.std.specs.Prelude.{◌≡◌, ℕ, List, [], ◌++◌, false, Option, None, Some, Result, Ok, Err, ⊤}
use Rattle.pcl_items.specs.Items.{Entry}
use Rattle.pcl_lexer.specs.Reading.{Reading, Stopped}
use Rattle.page_env.specs.declared.finding.Finding.{Finding}
use Rattle.page_env.specs.Settings.{State, settings_at, state_at}
use Rattle.page_machine.specs.Machine.{item_of, end_of}
use Rattle.page_machine.specs.MachineState.{MachineState}
use Rattle.page_machine.specs.Run.{Run, Ending, Done, Halts}
use Rattle.page_machine.specs.Still.{StopsStill, is_one_step}
use Rattle.sinks.specs.declared.counts.Counts.{Counts}
use Rattle.sinks.specs.Counts.{counts_after}
use Rattle.streams.specs.declared.error.Error.{Error}
use Rattle.renderings.specs.declared.outcome.Outcome.{Outcome}
use Rattle.renderings.specs.Carriers.PageRendering.{any_panel}
use Rattle.renderings.specs.Expected.{Rendering}
use Rattle.requests.specs.declared.selection.Selection.{Selection}
use Rattle.job_reports.specs.Groups.{Groups}
use Rattle.picture_command.specs.PageSearch.{Searched, reading_search}

-- ---- the rest of a job

-- what is told of it, from where the machine stands
abbrev pub rest_search : Selection → (job : List ℕ) → Groups → MachineState → Counts → Reading → Searched
rest_search selection job group machine counts reading =
    reading_search selection job group machine.printer
    (settings_at any_panel machine.defaults) counts reading machine.macros (state_at any_panel machine.page)

abbrev pub search_from : Selection → (job : List ℕ) → Groups → MachineState → Counts → Rendering
search_from selection job group machine counts = record {
  text = λ reading. (rest_search selection job group machine counts reading).text;
  outcome = λ reading. (rest_search selection job group machine counts reading).outcome;
  at_fault = λ items place cause. (rest_search selection job group machine counts (Stopped items place cause)).text;
}

-- ---- a call of the machine

-- a run ended so, and its events were counted
pub record HasRun (run : Run) (ending : Ending) (counts counts' : Counts) : Type 0 where
  pub ending_is : run.ending ≡ ending
  pub counts_are : counts' ≡ counts_after run.events counts

-- an item was carried out to its end, or had a finding, or work stopped
abbrev pub Steps : MachineState → MachineState → Entry → Counts → Counts → Result (Option Finding) Error → Type 0
Steps machine machine' item counts counts' (Ok None) =
    (machine'
    ≡ record machine {
      page = machine'.page;
      macros = (item_of machine item).macros;
      mode = (item_of machine item).mode;
      stopped = false;
    })
    × HasRun ((item_of machine item).run any_panel) (Done (state_at any_panel machine'.page)) counts counts'
Steps machine machine' item counts counts' (Ok (Some finding)) =
    HasRun ((item_of machine item).run any_panel) (Halts finding) counts counts'
    × StopsStill (is_one_step item) machine machine'
Steps machine machine' item counts counts' (Err e) = ⊤

-- so was the end of the bytes
abbrev pub Finishes : MachineState → Counts → Counts → Result (Option Finding) Error → Type 0
Finishes machine counts counts' (Ok None) =
    (s : State) × HasRun ((end_of machine).run any_panel) (Done s) counts counts'
Finishes machine counts counts' (Ok (Some finding)) =
    HasRun ((end_of machine).run any_panel) (Halts finding) counts counts'
Finishes machine counts counts' (Err e) = ⊤

-- ---- what is told

-- a text was kept behind another, and this comes of it
abbrev pub Keeps : List ℕ → List ℕ → Searched → Result Outcome Error → Type 0
Keeps kept kept' searched (Ok outcome) = (kept' ≡ kept ++ searched.text) × (outcome ≡ searched.outcome)
Keeps kept kept' searched (Err e) = ⊤
