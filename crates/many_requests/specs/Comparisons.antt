-- What comparisons leave that are made on files.
use Rattle.std.specs.Prelude.{◌≡◌, ◌⊎◌, ℕ, Bool, IsFalse, List, [], ◌∷◌, ◌++◌, flat_map, map, Option, None, Some}
use Rattle.std.specs.Prelude.{false, option_map}
use Rattle.requests.specs.declared.compare_words.CompareWords.{CompareWords}
use Rattle.requests.specs.declared.compare_words.ComparedJobs.{ComparedJobs}
use Rattle.requests.specs.declared.compare_words.ComparedJobs.TheVariants.{Pair, Golden as InFolder}
use Rattle.requests.specs.declared.status.Status.{Status}
use Rattle.streams.specs.Ended.{JobRead}
use Rattle.streams.specs.Files.{no_source}
use Rattle.streams.specs.Outlet.{OutletState}
use Rattle.streams.specs.Used.{FileUse, TextsAt}
use Rattle.compare_command.specs.Compare.{Asked, LeavesCompared}
use Rattle.compare_command.specs.Golden.{Golden}
use Rattle.job_reports.specs.Pipes.{RefusesPipe}
use Rattle.many_jobs.specs.FleetFile.{AreFleets, FleetText, words_named}
use Rattle.named_inputs.specs.Texts.{text_named}
use Rattle.many_requests.specs.Checks.{LacksSome, UsesAll}
use Rattle.many_requests.specs.DrawnJobs.{LeavesDrawnOnFiles}
use Rattle.many_requests.specs.GoldenJobs.{LeavesInFolder, golden_in}
use Rattle.many_requests.specs.Reads.{read_for_each, reads_input_twice}

abbrev pub fleet_paths : CompareWords → List (List ℕ)
fleet_paths words = map (λ word. word.now) words.fleets.items

-- what these words ask of two jobs, with these printers
abbrev pub asked_by : CompareWords → (old new : List ℕ) → List (List ℕ) → Asked
asked_by words old new printers = record {
  old_name = old;
  new_name = new;
  printers = printers;
  form = words.form;
  nearness = words.nearness;
  extent = words.extent;
  is_named = false;
}

-- what they ask of each of many pairs
abbrev pub golden_by : CompareWords → List (List ℕ) → Golden
golden_by words printers = record {
  pairs = [];
  printers = printers;
  form = words.form;
  nearness = words.nearness;
  extent = words.extent;
}

-- the printers of the words, and then those that the texts of fleets name
abbrev pub printers_by : CompareWords → List FleetText → List (List ℕ)
printers_by words fleets = map (λ word. word.now) words.printers.items ++ flat_map words_named fleets

-- The jobs are compared, where standard input is read once at most, on the printers of the texts in the history; or one
-- is refused that can be read only once, nothing is written and nothing read.
abbrev pub LeavesOnFiles : Asked → Status → List FileUse → List FileUse → OutletState → OutletState → OutletState →
    OutletState → Type 0
LeavesOnFiles asked status used used' out out' err err' =
    (IsFalse (reads_input_twice asked) × (ended : List JobRead) × (texts : List (List ℕ)) × (read_failed : Bool)
    × UsesAll asked.printers texts read_failed ended used used'
    × LeavesCompared (map text_named asked.printers) [] texts asked (λ name. no_source) status [] ended out out' err
    err')
    ⊎ (RefusesPipe (asked.old_name ∷ asked.new_name ∷ []) read_for_each status err err' × (out' ≡ out) × (used' ≡ used))

-- of two jobs, where what differs is drawn into a file at a path, or is not
abbrev pub LeavesPair : Option (List ℕ) → Asked → Status → List FileUse → List FileUse → OutletState → OutletState →
    OutletState → OutletState → Type 0
LeavesPair None asked status used used' out out' err err' = LeavesOnFiles asked status used used' out out' err err'
LeavesPair (Some path) asked status used used' out out' err err' =
    LeavesDrawnOnFiles asked path status used used' out out' err err'

-- of two jobs, or of each of many with the one of its name in a folder
abbrev pub LeavesWith : ComparedJobs → CompareWords → List (List ℕ) → Status → List FileUse → List FileUse →
    OutletState → OutletState → OutletState → OutletState → Type 0
LeavesWith (Pair old_job new_job) words printers status used used' out out' err err' =
    LeavesPair (option_map (λ path. path.now) words.picture) (asked_by words old_job.now new_job.now printers) status
    used used' out out' err err'
LeavesWith (InFolder folder jobs) words printers status used used' out out' err err' =
    LeavesInFolder (golden_in folder.now (map (λ job. job.now) jobs.items) (golden_by words printers)) status used used'
    out out' err err'

-- so for the printers of the words and of the fleets, whose texts are read first; or one of these cannot be had
abbrev pub LeavesComparison : CompareWords → Status → List FileUse → List FileUse → OutletState → OutletState →
    OutletState → OutletState → Type 0
LeavesComparison words status used used' out out' err err' =
    ((fleets : List FleetText) × AreFleets text_named (fleet_paths words) fleets
    × LeavesWith words.jobs words (printers_by words fleets) status
    (used ++ TextsAt (fleet_paths words) (map (λ fleet. fleet.text) fleets) false ∷ []) used' out out' err err')
    ⊎ (LacksSome (fleet_paths words) None status err err' × (out' ≡ out))
