-- At what a check of many jobs does not stop.
use Rattle.std.proofs.Common.{◌≡◌, ◌-◌, ℕ, List, [], Option, Bool, false, ap, get_or, inl, inr, refl, subst, sym, ◌∙◌}
use Rattle.streams.specs.declared.error.Error.{Error}
use Rattle.streams.specs.declared.error.Error.TheVariants.{Memory, Read, Write}
use Rattle.streams.specs.Errors.{is_read}
use Rattle.streams.specs.Outlet.{OutletState}
use Rattle.streams.specs.Source.{SourceState}
use Rattle.requests.specs.declared.status.Status.{Status}
use Rattle.requests.specs.declared.status.Status.TheVariants.{Profile, Stopped, Told}
use Rattle.requests.specs.declared.status.Trouble.{Trouble}
use Rattle.requests.specs.declared.status.Trouble.TheVariants.{Refused, NoVerdict}
use Rattle.requests.specs.Status.{is_stop_of_read, is_stop_of_write}
use Rattle.named_inputs.specs.Fleet.{IsEndOfFleet}
use Rattle.named_inputs.specs.Texts.{IsErrorOfReading}
use Rattle.job_reports.specs.Groups.{Groups}
use Rattle.job_reports.specs.Refusals.{TellsLine}
use Rattle.many_jobs.specs.declared.ending.Ending.{Ending}
use Rattle.many_jobs.specs.declared.ending.Ending.TheVariants.{Passes, Fails, HasNoVerdict}
use Rattle.many_jobs.specs.declared.telling.Format.{Format}
use Rattle.many_jobs.specs.CheckMany.{Asked, LeavesLines, TellsRefusal, TellsStop, refusal_text, status_of, unread_text}
use Rattle.many_jobs.specs.JobChecks.{IsErrorOfLine, Work}
use Rattle.many_jobs.proofs.JobChecks.{end_error}

-- neither a read that failed nor a write
abbrev pub IsNoFailure : Status → Type 0
IsNoFailure status = (is_stop_of_read status ≡ false) × (is_stop_of_write status ≡ false)

line_told : (status : Status) (trouble : Trouble) (line : List ℕ) (err err' : OutletState) → TellsLine status trouble line err err' →
    IsNoFailure status
line_told (Told told) trouble line err err' tells = (refl, refl)
line_told (Stopped Memory) trouble line err err' tells = (refl, refl)
line_told _ trouble line err err' tells = absurd tells

stop_told : (format : Format) (error : Error) (status : Status) (err err' : OutletState) → IsErrorOfReading error →
    TellsStop format error status err err' → IsNoFailure status
stop_told format Memory status err err' reading tells = subst IsNoFailure (sym tells.0) (refl, refl)
stop_told format Read status err err' reading tells = line_told status NoVerdict (unread_text format tells.0 tells.1) err err' tells.2
stop_told format _ status err err' reading tells = absurd reading

-- where there is no fleet, and that is told
pub refusal_told : (known : List (Option (List ℕ))) (format : Format) (end : Status) (words : List (List ℕ)) (status : Status)
    (err err' : OutletState) → IsEndOfFleet known end → TellsRefusal format end words status err err' → IsNoFailure status
refusal_told known format (Profile number line cause) words status err err' ends tells =
    line_told status Refused (refusal_text format number (get_or words (number - 1) []) line cause) err err' tells
refusal_told known format (Stopped error) words status err err' ends tells =
    stop_told format error status err err' (end_error known error ends) tells
refusal_told known format _ words status err err' ends tells = absurd ends

-- where all lines stand there
pub ending_told : (ending : Ending) → IsNoFailure (status_of ending)
ending_told Passes = (refl, refl)
ending_told Fails = (refl, refl)
ending_told HasNoVerdict = (refl, refl)

no_read : (error : Error) → IsErrorOfLine error → is_read error ≡ false
no_read Memory line = refl
no_read Write line = refl
no_read _ line = absurd line

-- where the lines are told of, all or a front
pub lines_told : (asked : Asked) (groups : Groups) (start : List ℕ → SourceState) (status : Status) (old new : Work) →
    LeavesLines asked groups start status old new → is_stop_of_read status ≡ false
lines_told asked groups start status old new (inl all) = ap is_stop_of_read all.1 ∙ (ending_told all.0).0
lines_told asked groups start status old new (inr front) = ap is_stop_of_read front.1 ∙ no_read front.0 front.2
