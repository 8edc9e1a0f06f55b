-- What a comparison of two jobs leaves that is made on files, with a picture of what differs.
use Rattle.std.specs.Prelude.{◌≡◌, ◌⊎◌, ℕ, Bool, List, [], ◌∷◌, ◌++◌, map, Contains, IsFalse, IsTrue, false, true}
use Rattle.std.specs.Prelude.{None, Option, Some}
use Rattle.requests.specs.declared.status.Input.{Input}
use Rattle.requests.specs.declared.status.Input.TheVariants.{Job, Profile}
use Rattle.requests.specs.declared.status.Status.{Status}
use Rattle.requests.specs.declared.status.Status.TheVariants.{Overwrites, Stopped}
use Rattle.streams.specs.Ended.{JobRead}
use Rattle.streams.specs.Files.{FileOutletState, no_outlet, no_source}
use Rattle.streams.specs.Outlet.{OutletState}
use Rattle.streams.specs.Used.{FileUse, written_at}
use Rattle.streams.specs.declared.error.Error.TheVariants.{Write}
use Rattle.compare_command.specs.Compare.{Asked}
use Rattle.compare_command.specs.Drawing.{LeavesDrawn, is_whole}
use Rattle.compare_command.specs.declared.drawing.Drawn.{Drawn}
use Rattle.job_reports.specs.Pipes.{RefusesPipe}
use Rattle.named_inputs.specs.Texts.{text_named}
use Rattle.many_requests.specs.Checks.{UsesAll}
use Rattle.many_requests.specs.Looks.{Finds}
use Rattle.many_requests.specs.Reads.{read_for_each, reads_input_twice}

-- ---- OUT

-- The program ends as the command did, and what that drew was put in OUT's place just where it is whole; or that could
-- not be done, which is a write that failed, and it was not.
abbrev pub EndsDrawn : Drawn → Status → OutletState → FileOutletState → Type 0
EndsDrawn drawn status file file' =
    ((status ≡ drawn.status) × (file'.outlet ≡ file) × (file'.is_put ≡ is_whole drawn))
    ⊎ ((status ≡ Stopped Write) × IsTrue (is_whole drawn) × (file'.outlet ≡ record file { failed = true })
    × IsFalse file'.is_put)

-- so as the history of files has it, of the file at a path
abbrev pub PutsDrawn : (into : List ℕ) → Drawn → Status → OutletState → FileUse → Type 0
PutsDrawn into drawn status file one =
    ((status ≡ drawn.status) × (one ≡ written_at into file (is_whole drawn)))
    ⊎ ((status ≡ Stopped Write) × IsTrue (is_whole drawn)
    × (one ≡ written_at into (record file { failed = true }) false))

-- ---- what is left

-- the jobs are compared on the printers of the texts in the history, and behind all that was read OUT stands in it
pub record LeavesDrawnJobs (asked : Asked) (into : List ℕ) (status : Status) (used used' : List FileUse)
    (out out' err err' : OutletState) : Type 0 where
  pub ended : List JobRead
  pub texts : List (List ℕ)
  pub read_failed : Bool
  pub between : List FileUse
  pub uses : UsesAll asked.printers texts read_failed ended used between
  pub drawn : Drawn
  pub file : OutletState
  pub one : FileUse
  pub used_are : used' ≡ between ++ one ∷ []
  pub put : PutsDrawn into drawn status file one
  pub left : LeavesDrawn (map text_named asked.printers) [] texts asked (λ name. no_source) drawn [] ended no_outlet
      file out out' err err'

-- a file of this name is read: a job, or a profile
abbrev pub IsInput : Input → Asked → (name : List ℕ) → Type 0
IsInput Job asked name = (name ≡ asked.old_name) ⊎ (name ≡ asked.new_name)
IsInput Profile asked name = Contains asked.printers name

-- such a file was found at a path, as the history of files has it, or none
abbrev pub FindsInput : Asked → (path : List ℕ) → Option Input → List FileUse → List FileUse → Type 0
FindsInput asked path None used used' = used' ≡ used
FindsInput asked path (Some read) used used' =
    (name : List ℕ) × IsInput read asked name × Finds path (Some name) used used'

-- so it is, unless OUT is a file that is read, as a look found: then nothing is written and nothing read
abbrev pub LeavesUnlessRead : Asked → (into : List ℕ) → Status → List FileUse → List FileUse → OutletState →
    OutletState → OutletState → OutletState → Type 0
LeavesUnlessRead asked into status used used' out out' err err' =
    LeavesDrawnJobs asked into status used used' out out' err err'
    ⊎ ((read : Input) × (status ≡ Overwrites read) × FindsInput asked into (Some read) used used' × (err' ≡ err)
    × (out' ≡ out))

-- and unless one of the jobs is refused that can be read only once
abbrev pub LeavesDrawnOnFiles : Asked → (into : List ℕ) → Status → List FileUse → List FileUse → OutletState →
    OutletState → OutletState → OutletState → Type 0
LeavesDrawnOnFiles asked into status used used' out out' err err' =
    (IsFalse (reads_input_twice asked) × LeavesUnlessRead asked into status used used' out out' err err')
    ⊎ (RefusesPipe (asked.old_name ∷ asked.new_name ∷ []) read_for_each status err err' × (out' ≡ out) × (used' ≡ used))
