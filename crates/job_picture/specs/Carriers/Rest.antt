-- What is due of the rest of a job, from where a machine stands.
use Rattle.std.specs.Prelude.{ℕ, Bool, List, ◌++◌}
use Rattle.pcl_lexer.specs.Reading.{Reading}
use Rattle.page_env.specs.Settings.{settings_at, state_at}
use Rattle.page_machine.specs.MachineState.{MachineState}
use Rattle.renderings.specs.Carriers.PageRendering.{any_panel}
use Rattle.renderings.specs.Expected.{Rendering}
use Rattle.job_picture.specs.declared.progress.Progress.{Progress}
use Rattle.requests.specs.declared.selection.Selection.{Selection}
use Rattle.job_picture.specs.JobPicture.{Drawing, fault_behind, reading_drawing, started_behind, then_draws}
use Rattle.job_picture.specs.Sheet.{start_if_due}

-- what is drawn of it, where the pages have come so far
abbrev pub rest_drawing : Selection → (sentence : List ℕ) → MachineState → Progress → Reading → Drawing
rest_drawing selection sentence machine p reading =
    reading_drawing selection sentence machine.printer (settings_at any_panel machine.defaults) p reading machine.macros
    (state_at any_panel machine.page)

-- and before that what stands before all pages, unless it is put
abbrev pub drawn_from : Selection → (sentence : List ℕ) → MachineState → Progress → (is_started : Bool) → Rendering
drawn_from selection sentence machine p is_started = record {
  text =
      λ reading. (then_draws (start_if_due selection sentence is_started)
      (rest_drawing selection sentence machine p reading)).text;
  outcome = λ reading. (rest_drawing selection sentence machine p reading).outcome;
  at_fault = λ items place cause.
      start_if_due selection sentence (started_behind is_started items)
      ++ fault_behind selection sentence machine.printer
      (settings_at any_panel machine.defaults) place cause p items machine.macros (state_at any_panel machine.page);
}
