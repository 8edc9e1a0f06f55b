-- What the words of a comparison name.
use Rattle.std.specs.Prelude.{◌≢◌, ◌||◌, ℕ, Bool, List, [], ◌++◌, ⊤}
use Rattle.std.specs.List.{list_any}
use Rattle.std.specs.Str.{bytes_eq}
use Rattle.requests.specs.declared.compare_words.CompareWords.{CompareWords}
use Rattle.requests.specs.declared.compare_words.ComparedJobs.{ComparedJobs}
use Rattle.requests.specs.declared.compare_words.ComparedJobs.TheVariants.{Golden, Pair}

-- two jobs, or one at least beside a folder
abbrev pub NamesJobs : ComparedJobs → Type 0
NamesJobs (Pair old_job new_job) = ⊤
NamesJobs (Golden folder jobs) = jobs.items ≢ []

-- one printer at least, or a text that names some, and such jobs
abbrev pub NamesCompared : CompareWords → Type 0
NamesCompared words = (words.printers.items ++ words.fleets.items ≢ []) × NamesJobs words.jobs

-- a word names a job at this path; those in a folder no word names
abbrev pub reads_job : ComparedJobs → List ℕ → Bool
reads_job (Pair old_job new_job) path = bytes_eq old_job.now path || bytes_eq new_job.now path
reads_job (Golden folder jobs) path = list_any (λ job. bytes_eq job.now path) jobs.items

-- a word names a printer or a fleet at this path
abbrev pub reads_printer : CompareWords → List ℕ → Bool
reads_printer words path =
    list_any (λ word. bytes_eq word.now path) words.printers.items
    || list_any (λ word. bytes_eq word.now path) words.fleets.items
