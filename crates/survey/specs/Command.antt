-- What the command `survey` leaves.
use Rattle.std.specs.Prelude.{◌≡◌, ◌⊎◌, ℕ, ◌+◌, List, [], ◌∷◌, ◌++◌, codes, IsFalse, IsTrue, ⊤}
use Rattle.streams.specs.declared.error.Error.TheVariants.{Memory, Write, Turns}
use Rattle.streams.specs.Ended.{JobRead, job_read}
use Rattle.streams.specs.Outlet.{OutletState, Adds, AddsFront}
use Rattle.streams.specs.Source.{SourceState}
use Rattle.requests.specs.declared.many_words.Form.{Form}
use Rattle.requests.specs.declared.many_words.Form.TheVariants.{Line, Words, Json, Html}
use Rattle.requests.specs.declared.status.Status.{Status}
use Rattle.requests.specs.declared.status.Status.TheVariants.{Help, Stopped}
use Rattle.job_reports.specs.Refusals.{TellsUnread}
use Rattle.survey.specs.Lines.{rows_text}
use Rattle.survey.specs.Objects.{rows_objects}
use Rattle.survey.specs.Surveys.{IsTallied}
use Rattle.survey.specs.Tally.{Tally, no_refusals}

-- what is written of what is counted of the jobs of these names
abbrev pub survey_text : Form → List (List ℕ) → Tally → List ℕ
survey_text Line names tally = rows_text names tally
survey_text Words names tally = rows_text names tally
survey_text Json names tally = rows_objects names tally
survey_text Html names tally = rows_text names tally

-- The job of this name and number was read to its end, and what is told of it is counted; it is one more of those that
-- were ended.
abbrev pub IsNextTallied : (List ℕ → SourceState) → List ℕ → List JobRead → List JobRead → ℕ → Tally → Tally → Type 0
IsNextTallied start name ended ended' number old new =
    (state : SourceState) × (ended' ≡ ended ++ job_read name state ∷ []) × IsTallied (start name) state number old new

-- so of the jobs of all these names, of which the first has this number
abbrev pub AreTallied : (List ℕ → SourceState) → List (List ℕ) → List JobRead → List JobRead → ℕ → Tally →
    Tally → Type 0
AreTallied start [] ended ended' number old new = (ended' ≡ ended) × (new ≡ old)
AreTallied start (name ∷ names) ended ended' number old new =
    (between : List JobRead) × (tally : Tally) × IsNextTallied start name ended between number old tally
    × AreTallied start names between ended' (number + 1) tally new

-- the work stopped before the end of the job
abbrev pub IsStop : Status → Type 0
IsStop (Stopped Memory) = ⊤
IsStop (Stopped Turns) = ⊤
IsStop _ = ⊥

-- why the job of this name was not surveyed: standard error is told that it cannot be read, or nothing
abbrev pub StopsAt : List ℕ → Status → OutletState → OutletState → Type 0
StopsAt name status err err' =
    TellsUnread (codes "ERROR read job ") name status err err' ⊎ (IsStop status × (err' ≡ err))

-- how the text is written: whole, or a front of it where a write failed; or there was no memory for it
abbrev pub WritesSurvey : List ℕ → Status → OutletState → OutletState → Type 0
WritesSurvey text Help out out' = IsFalse out'.failed × Adds out out' text
WritesSurvey text (Stopped Write) out out' = IsTrue out'.failed × AddsFront out out' text
WritesSurvey text (Stopped Memory) out out' = out' ≡ out
WritesSurvey text _ out out' = ⊥

-- the job of this name was ended, and not surveyed
abbrev pub EndsUnsurveyed : List ℕ → Status → List JobRead → List JobRead → OutletState → OutletState → Type 0
EndsUnsurveyed name status ended ended' err err' =
    (state : SourceState) × (ended' ≡ ended ++ job_read name state ∷ []) × StopsAt name status err err'

-- one of the jobs of these names was not surveyed; those of the names before it were, and it is the last that was ended
abbrev pub StopsAmong : (List ℕ → SourceState) → List (List ℕ) → Tally → Status → List JobRead → List JobRead →
    OutletState → OutletState → Type 0
StopsAmong start names old status ended ended' err err' =
    (surveyed others : List (List ℕ)) × (name : List ℕ) × (between : List JobRead) × (tally : Tally)
    × (names ≡ surveyed ++ name ∷ others) × AreTallied start surveyed ended between 0 old tally
    × EndsUnsurveyed name status between ended' err err'

-- All jobs were surveyed, and what is counted of them is written; or one of them was not, and nothing is written.
abbrev pub LeavesSurvey : Form → List (List ℕ) → (List ℕ → SourceState) → Status → List JobRead → List JobRead →
    OutletState → OutletState → OutletState → OutletState → Type 0
LeavesSurvey form names start status ended ended' out out' err err' =
    ((tally : Tally) × AreTallied start names ended ended' 0 no_refusals tally
    × WritesSurvey (survey_text form names tally) status out out' × (err' ≡ err))
    ⊎ (StopsAmong start names no_refusals status ended ended' err err' × (out' ≡ out))
