-- Which jobs would be read again whose bytes are gone once they are read.
use Rattle.std.specs.Prelude.{◌≡◌, ◌⊎◌, ◌&&◌, ◌||◌, ◌++◌, ℕ, Bool, List, Option, IsTrue, codes, count_by, length}
use Rattle.std.specs.Prelude.{nat_lt, option_to_list}
use Rattle.streams.specs.Writing.{Writes}
use Rattle.streams.specs.Outlet.{OutletState}
use Rattle.many_jobs.specs.CheckMany.{Asked}
use Rattle.named_inputs.specs.FileJobs.{is_input}
use Rattle.job_reports.specs.Pipes.{RefusesPipe}
use Rattle.requests.specs.declared.status.Status.{Status}
use Rattle.requests.specs.declared.status.Status.TheVariants.{Usage}

-- each job is read more than once: for its notes, or for each printer
abbrev pub is_apart : Asked → Bool
is_apart asked = asked.tells_notes || (asked.is_each && nat_lt 1 (length asked.printers))

-- how many words are standard input: the one for the file of names, and those of jobs
abbrev pub input_count : Option (List ℕ) → List (List ℕ) → ℕ
input_count names_from jobs = count_by is_input (option_to_list names_from ++ jobs)

-- standard input would be read more than once
abbrev pub reads_input_again : Option (List ℕ) → Asked → Bool
reads_input_again names_from asked =
    nat_lt 1 (input_count names_from asked.jobs) || (is_apart asked && nat_lt 0 (count_by is_input asked.jobs))

-- ---- what is told

-- standard input cannot be read again
abbrev pub input_again : List ℕ
input_again =
    codes "error: standard input can be read only once, as one job or as the list, without --notes and --each\n"

-- for each printer, or for its notes
abbrev pub read_apart : List ℕ
read_apart = codes "--each reads it for each printer, and --notes once more\n"

-- Standard input that would be read again is refused, and so may be a job that is no file where each job is
-- read more than once.
abbrev pub RefusesInput : Option (List ℕ) → Asked → Status → OutletState → OutletState → Type 0
RefusesInput names_from asked status err err' =
    (IsTrue (reads_input_again names_from asked) × (status ≡ Usage) × Writes err err' input_again)
    ⊎ (IsTrue (is_apart asked) × RefusesPipe asked.jobs read_apart status err err')
