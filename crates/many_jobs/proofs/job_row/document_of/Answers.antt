use Rattle.std.proofs.Common.{◌∙◌, List, Option, ℕ, ap, option_map, refl, sym}
use Rattle.job_rows.specs.Links.{DocumentTold}
use Rattle.many_jobs.specs.JobRow.{document_in}
use Rattle.many_jobs.proofs.job_row.document_of.Goals as goal

-- the document of a job in the folder of this path, if there is one
abbrev in_folder : (job : List ℕ) → Option (List ℕ) → Option DocumentTold
in_folder job folder = option_map (λ (path : List ℕ). document_in path job) folder

pub returns-then-is_read_once : goal.returns-then-is_read_once
returns-then-is_read_once c = rw (sym c.is_read_once.ensures ∙ c.if-is_read_once.true) refl

pub returns-in-None : goal.returns-in-None
returns-in-None c =
    rw (sym c.is_read_once.ensures ∙ c.if-is_read_once.false)
    (sym (ap (λ folder. in_folder c.args.job.now (option_map (λ word. word.now) folder)) c.in-None.is))

pub returns-in-Some : goal.returns-in-Some
returns-in-Some c =
    rw (sym c.is_read_once.ensures ∙ c.if-is_read_once.false)
    (sym (ap (λ folder. in_folder c.args.job.now (option_map (λ word. word.now) folder)) c.in-Some.is))
