-- What is told of a job that is no file, and can be read only once.
use Rattle.std.specs.Prelude.{◌≡◌, ◌++◌, ℕ, List, Contains, codes}
use Rattle.streams.specs.declared.error.Error.TheVariants.{Memory}
use Rattle.streams.specs.Writing.{Writes}
use Rattle.streams.specs.Outlet.{OutletState}
use Rattle.requests.specs.declared.status.Status.{Status}
use Rattle.requests.specs.declared.status.Status.TheVariants.{Usage, Stopped}
use Rattle.job_reports.specs.JobSentences.{named_first}

-- the job of this name is no file; this is why it would be read again
abbrev pub pipe_again : (name why : List ℕ) → List ℕ
pipe_again name why =
    codes "error: " ++ named_first name ++ codes "a job that is no file can be read only once; " ++ why

-- One of these jobs is refused, of which standard error is told; without memory for its name nothing is.
abbrev pub RefusesPipe : (jobs : List (List ℕ)) → (why : List ℕ) → Status → OutletState → OutletState → Type 0
RefusesPipe jobs why Usage err err' = (name : List ℕ) × Contains jobs name × Writes err err' (pipe_again name why)
RefusesPipe jobs why (Stopped Memory) err err' = err' ≡ err
RefusesPipe jobs why _ err err' = ⊥
