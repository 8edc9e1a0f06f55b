-- Lists of names from which there is nothing to check.
use Rattle.std.specs.Prelude.{◌==◌, ◌&&◌, ◌||◌, ◌≡◌, ◌++◌, ℕ, Bool, not, List, [], codes, length, if◌then◌else◌}
use Rattle.std.specs.Prelude.{Option, None, Some}
use Rattle.std.specs.List.{list_any}
use Rattle.streams.specs.declared.error.Error.TheVariants.{Memory}
use Rattle.streams.specs.Outlet.{OutletState}
use Rattle.streams.specs.Writing.{Writes}
use Rattle.job_reports.specs.JobSentences.{named_first}
use Rattle.requests.specs.declared.status.Status.{Status}
use Rattle.requests.specs.declared.status.Status.TheVariants.{Usage, Stopped}

-- the bytes have ends of lines, and no zero byte
abbrev pub is_of_lines : List ℕ → Bool
is_of_lines names = list_any (λ byte. byte == 10) names && not (list_any (λ byte. byte == 0) names)

-- The bytes of a list are refused that leads to these jobs:
-- its names stand in lines, or there is no job, and that is not allowed.
abbrev pub is_refused_list : (allows_empty : Bool) → (names : List ℕ) → (jobs : List (List ℕ)) → Bool
is_refused_list allows_empty names jobs = is_of_lines names || (not allows_empty && (length jobs == 0))

-- ---- what is told

-- the path of the list; where words alone name jobs there is none
abbrev pub path_of : Option (List ℕ) → List ℕ
path_of None = []
path_of (Some path) = path

-- what is wrong with a list of these bytes
abbrev pub list_fault : List ℕ → List ℕ
list_fault names =
    if is_of_lines names then codes "the list has no zero byte; 'find -print0' writes one behind each name\n"
    else codes "the list names no job; --allow-empty lets it pass\n"

abbrev pub list_line : (path fault : List ℕ) → List ℕ
list_line path fault = codes "error: " ++ named_first path ++ fault

-- the list at this path is refused, of which standard error is told; without memory for its path nothing is
abbrev pub RefusesList : (path fault : List ℕ) → Status → OutletState → OutletState → Type 0
RefusesList path fault Usage err err' = Writes err err' (list_line path fault)
RefusesList path fault (Stopped Memory) err err' = err' ≡ err
RefusesList path fault _ err err' = ⊥
