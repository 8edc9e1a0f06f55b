-- What is asked for: which pages, with their outlines and feet or without, and the names of the job and of the printer.
use Rattle.std.specs.Prelude.{ℕ, Bool, List, [], get_or}
use Rattle.job_pdf.specs.declared.wanted.WantedPages.{WantedPages}
use Rattle.job_reports.specs.Groups.{Groups}
use Rattle.requests.specs.declared.selection.Selection.{Selection}

pub record Plan : Type 0 where
  pub selection : Selection
  pub is_proof : Bool
  pub job : List ℕ
  pub group : Groups

-- the name of the printer
abbrev pub printer_name : Plan → List ℕ
printer_name plan = get_or plan.group.names 0 []

abbrev pub plan_of : {A : Type 0} → WantedPages A → Plan
plan_of wanted = record {
  selection = wanted.selection;
  is_proof = wanted.is_proof;
  job = wanted.job.now;
  group = wanted.printers.now;
}
