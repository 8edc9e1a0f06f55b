-- A command that came to the work on its text had no profile, no choice and no OUT to refuse.
use Rattle.std.proofs.Common.{◌≡◌, ◌||◌, ℕ, Bool, true, false, List, Option, IsTrue, refl, sym, ap, ◌∙◌, true≢false}
use Rattle.streams.specs.declared.error.Error.{Error}
use Rattle.requests.specs.declared.status.Status.{Status}
use Rattle.requests.specs.declared.status.Status.TheVariants.{Pass, Fail, Help, Usage, Overwrites, NotAllowed, Told, Profile, Stopped}
use Rattle.subcommands.specs.JobTexts.{JudgesFirst}
use Rattle.requests.specs.Status.{IsEndOfText, is_refusal}
use Rattle.subcommands.proofs.JobNotes.{refuses_none, refuses_no_read}

pub judged_first : {Job : Type 0} (status : Status) (text : Option (List ℕ)) (before after : List (List ℕ)) (failed : Bool)
    (job job' : Job) → is_refusal status ≡ false → failed ≡ false → JudgesFirst status text before after failed job job'
judged_first status text before after failed job job' never read = (
  refuses_none text status never,
  refuses_no_read before after 1 status never,
  λ (is : IsTrue (is_refusal status || failed)). absurd (true≢false (sym is ∙ (ap (λ refusal. refusal || failed) never ∙ read))),
)

-- what holds of a pass, of a fail and of whatever stopped it holds of how a text ends
pub ends_by : (P : Status → Type 0) → P Pass → P Fail → ((error : Error) → P (Stopped error)) → (status : Status) → IsEndOfText status →
    P status
ends_by P pass fail stopped Pass end = pass
ends_by P pass fail stopped Fail end = fail
ends_by P pass fail stopped (Stopped error) end = stopped error
ends_by P pass fail stopped Help end = absurd end
ends_by P pass fail stopped Usage end = absurd end
ends_by P pass fail stopped (Overwrites input) end = absurd end
ends_by P pass fail stopped (NotAllowed choice) end = absurd end
ends_by P pass fail stopped (Told trouble) end = absurd end
ends_by P pass fail stopped (Profile number line cause) end = absurd end
