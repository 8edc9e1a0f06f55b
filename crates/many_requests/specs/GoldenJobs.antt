-- What comparisons of jobs with those of their names in a folder leave, on files.
use Rattle.std.specs.Prelude.{◌≡◌, ◌⊎◌, ℕ, Bool, List, [], codes, map, unwrap_or, string_bytes, IsFalse, IsTrue}
use Rattle.std.specs.List.{list_any}
use Rattle.std.specs.Path.{path_file_name, path_join}
use Rattle.streams.specs.declared.error.Error.TheVariants.{Memory}
use Rattle.streams.specs.Ended.{JobRead}
use Rattle.streams.specs.Files.{no_source}
use Rattle.streams.specs.Outlet.{OutletState}
use Rattle.streams.specs.Used.{FileUse}
use Rattle.streams.specs.Writing.{Writes}
use Rattle.requests.specs.declared.status.Status.{Status}
use Rattle.requests.specs.declared.status.Status.TheVariants.{Stopped, Usage}
use Rattle.compare_command.specs.Golden.{Golden, LeavesGolden, PairNames, pair_names}
use Rattle.job_reports.specs.Pipes.{RefusesPipe}
use Rattle.many_jobs.specs.JobChecks.{work}
use Rattle.named_inputs.specs.FileJobs.{is_input}
use Rattle.named_inputs.specs.Texts.{text_named}
use Rattle.many_requests.specs.Checks.{UsesAll}
use Rattle.many_requests.specs.Reads.{read_for_each}
use Rattle.many_requests.specs.declared.golden_jobs.GoldenJob.{GoldenJob}

-- ---- which jobs

-- the name of what is at a path; where it has none, nothing
abbrev pub last_part : List ℕ → List ℕ
last_part path = unwrap_or (path_file_name path) []

-- the path of the job in a folder that has the name of the one at a path
abbrev pub golden_path : (folder job : List ℕ) → List ℕ
golden_path folder job = path_join folder (last_part job)

abbrev pub pair_by : (folder job : List ℕ) → PairNames
pair_by folder job = pair_names (golden_path folder job) job

abbrev pub golden_names : GoldenJob → PairNames
golden_names job = pair_names (string_bytes job.path) job.new_name.now

-- these pairs, and else as it is asked
abbrev pub golden_with : List PairNames → Golden → Golden
golden_with pairs golden = record {
  pairs = pairs;
  printers = golden.printers;
  form = golden.form;
  nearness = golden.nearness;
  extent = golden.extent;
}

-- each of these jobs with the one of its name in the folder
abbrev pub golden_in : (folder : List ℕ) → (jobs : List (List ℕ)) → Golden → Golden
golden_in folder jobs golden = golden_with (map (pair_by folder) jobs) golden

-- ---- what can be read only once

abbrev pub is_input_of : PairNames → Bool
is_input_of pair = is_input pair.new_name

-- one of the jobs is standard input
abbrev pub names_input : Golden → Bool
names_input golden = list_any is_input_of golden.pairs

abbrev pub input_in_folder : List ℕ
input_in_folder =
    codes "error: standard input has no name that a job in DIR could have; --golden compares files\n"

-- Standard input is refused, and so may be a job that is no file where each job is read more than once.
abbrev pub RefusesGolden : Golden → Status → OutletState → OutletState → Type 0
RefusesGolden golden status err err' =
    (IsTrue (names_input golden) × (status ≡ Usage) × Writes err err' input_in_folder)
    ⊎ RefusesPipe (map (λ pair. pair.new_name) golden.pairs) read_for_each status err err'

-- ---- what is left

-- The pairs are compared on the printers of the texts in the history; or a job is refused that can be read only once,
-- nothing is written and nothing read.
abbrev pub LeavesGoldenFiles : Golden → Status → List FileUse → List FileUse → OutletState → OutletState →
    OutletState → OutletState → Type 0
LeavesGoldenFiles golden status used used' out out' err err' =
    (IsFalse (names_input golden) × (ended : List JobRead) × (texts : List (List ℕ)) × (read_failed : Bool)
    × UsesAll golden.printers texts read_failed ended used used'
    × LeavesGolden (map text_named golden.printers) [] texts golden (λ name. no_source) status (work out [])
    (work out' ended) err err')
    ⊎ (RefusesGolden golden status err err' × (out' ≡ out) × (used' ≡ used))

-- the same, or there was no memory for the names of the pairs
abbrev pub LeavesInFolder : Golden → Status → List FileUse → List FileUse → OutletState → OutletState → OutletState →
    OutletState → Type 0
LeavesInFolder golden status used used' out out' err err' =
    LeavesGoldenFiles golden status used used' out out' err err'
    ⊎ ((status ≡ Stopped Memory) × (out' ≡ out) × (err' ≡ err) × (used' ≡ used))
