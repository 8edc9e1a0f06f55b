-- How the program ends.
use Rattle.std.specs.Prelude.{ℕ, List, [], ◌∷◌, ◌++◌, codes, decimal, Bool, false, true, Result, Ok, Err, ⊤}
use Rattle.device_profile.specs.declared.fault.Cause.{Cause}
use Rattle.device_profile.specs.declared.fault.Cause.TheVariants.{Version, Unknown, Repeated, Range, Missing}
use Rattle.device_profile.specs.declared.fault.Cause.TheVariants.{NoGeometry}
use Rattle.device_profile.specs.declared.fault.ProfileFault.{ProfileFault}
use Rattle.device_profile.specs.declared.fault.ProfileFault.TheVariants.{Fault, Memory as NoMemory}
use Rattle.streams.specs.declared.error.Error.{Error}
use Rattle.streams.specs.declared.error.Error.TheVariants.{Memory, Read, Write, Turns, NoProfile, Items}
use Rattle.streams.specs.Errors.{is_read, is_write}
use Rattle.requests.specs.declared.status.Status.{Status}
use Rattle.requests.specs.declared.status.Input.{Input}
use Rattle.requests.specs.declared.status.Trouble.TheVariants.{Refused, NoVerdict, Mismatch}
use Rattle.requests.specs.declared.status.Input.TheVariants.{Job, Profile as TheProfile}
use Rattle.requests.specs.declared.status.Status.TheVariants.{Pass, Fail, Help, Usage, Overwrites, NotAllowed, Told}
use Rattle.requests.specs.declared.status.Status.TheVariants.{Profile, Stopped}

-- the number that the system is told
abbrev pub code_of : Status → ℕ
code_of Pass = 0
code_of Fail = 1
code_of Help = 0
code_of Usage = 2
code_of (Overwrites input) = 2
code_of (NotAllowed choice) = 2
code_of (Told Refused) = 2
code_of (Told NoVerdict) = 3
code_of (Told Mismatch) = 3
code_of (Profile number line cause) = 2
code_of (Stopped error) = 3

abbrev pub error_words : Error → List ℕ
error_words Memory = codes "ERROR memory"
error_words Read = codes "ERROR read"
error_words Write = codes "ERROR write"
error_words Turns = codes "ERROR turns"
error_words NoProfile = codes "ERROR no profile"
error_words Items = codes "ERROR items"

abbrev pub error_line : Error → List ℕ
error_line error = error_words error ++ 10 ∷ []

abbrev pub cause_name : Cause → List ℕ
cause_name Version = codes "Version"
cause_name Unknown = codes "Unknown"
cause_name Repeated = codes "Repeated"
cause_name Range = codes "Range"
cause_name Missing = codes "Missing"
cause_name NoGeometry = codes "NoGeometry"

-- the number of the profile and of the line in it, and what is wrong
abbrev pub refusal_line : ℕ → ℕ → Cause → List ℕ
refusal_line number line cause =
    codes "ERROR profile " ++ decimal number ++ codes " " ++ decimal line ++ codes " " ++ cause_name cause ++ codes "\n"

-- OUT is a file that is read
abbrev pub overwriting_line : Input → List ℕ
overwriting_line Job = codes "error: OUT is JOB itself, which would be lost\n"
overwriting_line TheProfile = codes "error: OUT is PROFILE itself, which would be lost\n"

-- What tells of the status on standard error.
-- Of a choice that a panel may not have it is another line, which has the values of the profile.
abbrev pub status_line : Status → List ℕ
status_line Pass = []
status_line Fail = []
status_line Help = []
status_line Usage = []
status_line (Overwrites input) = overwriting_line input
status_line (NotAllowed choice) = []
status_line (Told trouble) = []
status_line (Profile number line cause) = refusal_line number line cause
status_line (Stopped error) = error_line error

-- the job was gone through, and passes or fails
abbrev pub is_answer : Status → Bool
is_answer Pass = true
is_answer Fail = true
is_answer _ = false

-- the command came to its end: what it writes is whole, up to the failure of a job that fails
abbrev pub is_complete : Status → Bool
is_complete Pass = true
is_complete Fail = true
is_complete Help = true
is_complete _ = false

-- a profile is refused, or a choice that it does not allow
abbrev pub is_refusal : Status → Bool
is_refusal (Profile number line cause) = true
is_refusal (NotAllowed choice) = true
is_refusal _ = false

-- a choice that the profile does not allow
abbrev pub is_refused_choice : Status → Bool
is_refused_choice (NotAllowed choice) = true
is_refused_choice _ = false

-- OUT is a file that is read
abbrev pub is_overwriting : Status → Bool
is_overwriting (Overwrites input) = true
is_overwriting _ = false

-- the work stopped at a read that failed
abbrev pub is_stop_of_read : Status → Bool
is_stop_of_read (Stopped error) = is_read error
is_stop_of_read _ = false

-- the work stopped at a write that failed
abbrev pub is_stop_of_write : Status → Bool
is_stop_of_write (Stopped error) = is_write error
is_stop_of_write _ = false

-- the result is that the work stopped at a read that failed
abbrev pub is_err_at_read : {T : Type 0} → Result T Status → Bool
is_err_at_read (Ok x) = false
is_err_at_read (Err status) = is_stop_of_read status

-- the result is that the work stopped at a write that failed
abbrev pub is_err_at_write : {T : Type 0} → Result T Status → Bool
is_err_at_write (Ok x) = false
is_err_at_write (Err status) = is_stop_of_write status

-- how the work on a text of a job ends: the job passes or fails, or the work stopped
abbrev pub IsEndOfText : Status → Type 0
IsEndOfText Pass = ⊤
IsEndOfText Fail = ⊤
IsEndOfText (Stopped error) = ⊤
IsEndOfText _ = ⊥

-- why there is no open job beside an OUT that was created: OUT is a file that is read, a read failed, or a write,
-- or memory ran out
abbrev pub IsEndOfOpening : Status → Type 0
IsEndOfOpening (Overwrites input) = ⊤
IsEndOfOpening (Stopped Memory) = ⊤
IsEndOfOpening (Stopped Read) = ⊤
IsEndOfOpening (Stopped Write) = ⊤
IsEndOfOpening _ = ⊥

-- how the program ends where the text of the profile of this number gives none
abbrev pub refusal_of : ℕ → ProfileFault → Status
refusal_of number (Fault line cause) = Profile number line cause
refusal_of number NoMemory = Stopped Memory
