-- What standard error is told of printers that are refused or cannot be read.
use Rattle.std.specs.Prelude.{◌≡◌, ℕ, ◌==◌, List, [], ◌∷◌, ◌++◌, codes, decimal, if◌then◌else◌, Option}
use Rattle.device_profile.specs.declared.fault.Cause.{Cause}
use Rattle.device_profile.specs.declared.fault.Cause.TheVariants.{Version, Unknown, Repeated, Range, Missing}
use Rattle.device_profile.specs.declared.fault.Cause.TheVariants.{NoGeometry}
use Rattle.line_words.specs.Figures.{named}
use Rattle.shown_bytes.specs.Shown.{shown}
use Rattle.streams.specs.declared.error.Error.TheVariants.{Memory}
use Rattle.streams.specs.Outlet.{OutletState}
use Rattle.streams.specs.Writing.{Writes}
use Rattle.requests.specs.declared.status.Status.{Status}
use Rattle.requests.specs.declared.status.Status.TheVariants.{Stopped, Told}
use Rattle.requests.specs.declared.status.Trouble.{Trouble}
use Rattle.requests.specs.declared.status.Trouble.TheVariants.{NoVerdict}
use Rattle.job_reports.specs.JobLines.{cause_part}
use Rattle.job_reports.specs.JobSentences.{cause_phrase, named_first}
use Rattle.requests.specs.Status.{cause_name}

-- a line of a text, and what is wrong there
abbrev pub fault_part : ℕ → Cause → List ℕ
fault_part line cause = codes ":" ++ decimal line ++ 32 ∷ (cause_name cause ++ 10 ∷ [])

-- the number of a profile, its word, the line in its text and what is wrong there
abbrev pub refused_profile : ℕ → List ℕ → ℕ → Cause → List ℕ
refused_profile number word line cause =
    codes "ERROR profile " ++ decimal number ++ 32 ∷ (shown word ++ fault_part line cause)

-- behind these words the word of what could not be read, and what the system says of that
abbrev pub unread : List ℕ → List ℕ → Option (List ℕ) → List ℕ
unread front word cause = front ++ (shown word ++ (cause_part cause ++ 10 ∷ []))

abbrev pub unread_profile : List ℕ → Option (List ℕ) → List ℕ
unread_profile word cause = unread (codes "ERROR read profile ") word cause

-- ---- sentences

-- of the text as a whole there is no line
abbrev pub line_phrase : ℕ → List ℕ
line_phrase line = if line == 0 then [] else named (codes "line ") line ++ codes ": "

-- what is wrong in a line, or with line 0 in the text as a whole
abbrev pub fault_phrase : ℕ → Cause → List ℕ
fault_phrase line Version =
    codes "this is neither 'pclprofile 1' nor 'pclprofile 2', so no profile; jobs come behind -p or -f"
fault_phrase line Unknown = codes "the first word is no key of this version"
fault_phrase line Repeated = codes "this gives again what an earlier line gave, or a number twice"
fault_phrase line Range =
    if line == 0 then codes "the text has more than 65,536 bytes, or the panel offers what the printer lacks"
    else codes "what stands behind the key is not as the key wants it"
fault_phrase line Missing = codes "a key, a page or a face is missing"
fault_phrase line NoGeometry = codes "a size has no page in an orientation that the panel or another page has"

-- the words of `refused_profile`
abbrev pub refusal_words : ℕ → Cause → List ℕ
refusal_words number cause = named (codes " (ERROR profile ") number ++ codes " " ++ cause_name cause ++ codes ")\n"

-- the number of a profile, its word, the line in its text and what is wrong there
abbrev pub refused_profile_sentence : ℕ → List ℕ → ℕ → Cause → List ℕ
refused_profile_sentence number word line cause =
    named_first word ++ line_phrase line ++ fault_phrase line cause ++ refusal_words number cause

-- the word of a profile, and what the system says of the read that failed
abbrev pub unread_profile_sentence : List ℕ → Option (List ℕ) → List ℕ
unread_profile_sentence word cause =
    named_first word ++ codes "this profile cannot be read" ++ cause_phrase cause ++ codes " (ERROR read)\n"

-- ---- what is left of them

-- a line of this trouble was told, or there was no memory for it
abbrev pub TellsLine : Status → Trouble → List ℕ → OutletState → OutletState → Type 0
TellsLine (Told told) trouble line err err' = (told ≡ trouble) × Writes err err' line
TellsLine (Stopped Memory) trouble line err err' = err' ≡ err
TellsLine _ trouble line err err' = ⊥

-- standard error is told that what this word names cannot be read, behind these words, or there was no memory for that
abbrev pub TellsUnread : List ℕ → List ℕ → Status → OutletState → OutletState → Type 0
TellsUnread front word status err err' =
    (cause : Option (List ℕ)) × TellsLine status NoVerdict (unread front word cause) err err'

-- so it is told of the names of jobs
abbrev pub TellsOfNames : List ℕ → Status → OutletState → OutletState → Type 0
TellsOfNames path status err err' = TellsUnread (codes "ERROR read names ") path status err err'

-- and of a profile
abbrev pub TellsOfProfile : List ℕ → Status → OutletState → OutletState → Type 0
TellsOfProfile word status err err' = TellsUnread (codes "ERROR read profile ") word status err err'
