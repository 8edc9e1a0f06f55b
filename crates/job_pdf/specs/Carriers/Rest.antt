-- What is due of the rest of a job, from where a machine stands.
use Rattle.std.specs.Prelude.{Bool, ◌++◌}
use Rattle.pcl_lexer.specs.Reading.{Reading}
use Rattle.page_env.specs.Settings.{settings_at, state_at}
use Rattle.page_machine.specs.MachineState.{MachineState}
use Rattle.page_pdf.specs.Document.{Pdf}
use Rattle.renderings.specs.Carriers.PageRendering.{any_panel}
use Rattle.renderings.specs.Expected.{Rendering}
use Rattle.job_pdf.specs.JobPdf.{Drawing, fault_behind, reading_drawing, started_behind, then_draws}
use Rattle.job_pdf.specs.Plan.{Plan}
use Rattle.job_pdf.specs.Sheet.{start_if_due, started}

-- what is written of it, where the document has come so far
abbrev pub rest_drawing : Plan → MachineState → Pdf → Reading → Drawing
rest_drawing plan machine pdf reading =
    reading_drawing plan machine.printer (settings_at any_panel machine.defaults) pdf reading machine.macros
    (state_at any_panel machine.page)

-- and before that what stands before the pages, unless it is written
abbrev pub drawn_from : Plan → MachineState → Pdf → (is_started : Bool) → Rendering
drawn_from plan machine pdf is_started = record {
  text = λ reading.
      (then_draws (start_if_due is_started) (rest_drawing plan machine (started is_started pdf) reading)).text;
  outcome = λ reading. (rest_drawing plan machine (started is_started pdf) reading).outcome;
  at_fault = λ items place cause.
      start_if_due (started_behind is_started items)
      ++ fault_behind plan machine.printer (settings_at any_panel machine.defaults) place cause
      (started is_started pdf) items machine.macros (state_at any_panel machine.page);
}
