-- Folders that cannot have the documents of jobs.
use Rattle.std.specs.Prelude.{◌≡◌, ◌⊎◌, ◌∷◌, ◌++◌, ℕ, List, [], codes}
use Rattle.job_reports.specs.JobSentences.{named_first}
use Rattle.requests.specs.declared.status.Status.{Status}
use Rattle.requests.specs.declared.status.Status.TheVariants.{Usage, Stopped}
use Rattle.streams.specs.declared.error.Error.TheVariants.{Memory}
use Rattle.streams.specs.Outlet.{OutletState}
use Rattle.streams.specs.Used.{FileUse, NotEntered}
use Rattle.streams.specs.Writing.{Writes}

-- the line on a folder, with what the system says of it
abbrev pub folder_line : (folder cause : List ℕ) → List ℕ
folder_line folder cause =
    codes "error: " ++ named_first folder ++ codes "this folder of --pdf cannot be used: " ++ cause ++ codes "\n"

-- it is refused for this cause, as standard error tells; without memory for the line nothing is told
abbrev pub RefusesFolderFor : (folder cause : List ℕ) → Status → OutletState → OutletState → Type 0
RefusesFolderFor folder cause Usage err err' = Writes err err' (folder_line folder cause)
RefusesFolderFor folder cause (Stopped Memory) err err' = err' ≡ err
RefusesFolderFor folder cause _ err err' = ⊥

-- so it is, for what the system says
abbrev pub TellsFolder : (folder : List ℕ) → Status → OutletState → OutletState → Type 0
TellsFolder folder status err err' = (cause : List ℕ) × RefusesFolderFor folder cause status err err'

-- a look found that the system does not enter it, which the history of files has, and so it is refused; or there is no
-- memory to look, and nothing is told
abbrev pub RefusesFolder : (folder : List ℕ) → Status → List FileUse → List FileUse → OutletState → OutletState → Type 0
RefusesFolder folder status used used' err err' =
    ((used' ≡ used ++ NotEntered folder ∷ []) × TellsFolder folder status err err')
    ⊎ ((status ≡ Stopped Memory) × (used' ≡ used) × (err' ≡ err))
