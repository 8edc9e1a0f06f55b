-- What the program leaves of what it is asked for. Nothing is known of its files beforehand; the history of files tells
-- which were read and which were written, and under which words texts of profiles were asked for.
use Rattle.renderings.specs.Expected.{list_rendering}
use Rattle.std.specs.Prelude.{◌≡◌, List, ℕ, None, Option, map, option_map, IsFalse, IsTrue, ⊤}
use Rattle.requests.specs.declared.request.Request.{Request}
use Rattle.requests.specs.declared.request.Request.TheVariants as requests
use Rattle.streams.specs.Outlet.{OutletState}
use Rattle.streams.specs.Used.{FileUse}
use Rattle.streams.specs.Writing.{Writes}
use Rattle.command_names.specs.CommandNames.{table}
use Rattle.meanings.specs.CommandsTold.{is_unheard, told}
use Rattle.meanings.specs.Explanations.{complaint, end_of_explain}
use Rattle.profile_commands.specs.ProfileList.{LeavesModels}
use Rattle.profile_commands.specs.ProfileNew.{LeavesProfile}
use Rattle.named_inputs.specs.Texts.{text_named}
use Rattle.requests.specs.declared.status.Status.{Status}
use Rattle.many_requests.specs.Checks.{LeavesChecks, asking}
use Rattle.many_requests.specs.Comparisons.{LeavesComparison}
use Rattle.file_requests.specs.JobRequests.{LeavesCheck, LeavesNotesFor, LeavesPagesFor, LeavesPictureFor, LeavesPin}
use Rattle.file_requests.specs.JobRequests.{LeavesPdfAt, LeavesPlain, LeavesRendered, LeavesSurveyOf}
use Rattle.file_requests.specs.ProfileRequests.{LeavesAnsweredFor, LeavesLintFor, LeavesSheetFor, LeavesShownFor}

-- what these texts or the table of commands say of a code, or all of it; of a code that is unknown standard error tells
pub record LeavesExplanation (texts : List (List ℕ)) (code : Option (List ℕ)) (status : Status)
    (out out' err err' : OutletState) : Type 0 where
  pub text : IsFalse (is_unheard texts table code) → Writes out out' (told texts table code)
  pub untouched : IsTrue (is_unheard texts table code) → out' ≡ out
  pub status_is : status ≡ end_of_explain (is_unheard texts table code) out'.failed
  pub complaint : IsTrue (is_unheard texts table code) → Writes err err' (complaint code)
  pub quiet : IsFalse (is_unheard texts table code) → err' ≡ err

-- what a request comes to, on standard output, on standard error and in the history of files;
-- an explanation is one of these texts
abbrev pub Fulfils : List (List ℕ) → Request → Status → List FileUse → List FileUse → OutletState → OutletState →
    OutletState → OutletState → Type 0
Fulfils texts (requests.Check job profiles) status used used' out out' err err' =
    LeavesCheck job.now (map (λ word. word.now) profiles.items) (map (λ word. text_named word.now) profiles.items)
    status used used' out out' × (err' ≡ err)
Fulfils texts (requests.CheckMany words) status used used' out out' err err' =
    LeavesChecks (asking texts words) status used used' out out' err err'
Fulfils texts (requests.Survey jobs form) status used used' out out' err err' =
    LeavesSurveyOf (map (λ job. job.now) jobs.items) form status used used' out out' err err'
Fulfils texts (requests.Compare words) status used used' out out' err err' =
    LeavesComparison words status used used' out out' err err'
Fulfils texts (requests.List job) status used used' out out' err err' =
    LeavesRendered job.now list_rendering status used used' out out' × (err' ≡ err)
Fulfils texts (requests.Pages job profile) status used used' out out' err err' =
    LeavesPagesFor job.now profile.now status used used' out out' × (err' ≡ err)
Fulfils texts (requests.Picture job profile choices selection) status used used' out out' err err' =
    LeavesPictureFor profile.now choices.items selection job.now status used used' out out' err err'
Fulfils texts (requests.Pdf job profile choices selection is_proof file) status used used' out out' err err' =
    LeavesPdfAt job.now file.now profile.now None choices.items selection is_proof status used used' out out' err err'
Fulfils texts (requests.Notes job profile) status used used' out out' err err' =
    LeavesNotesFor job.now profile.now status used used' out out' × (err' ≡ err)
Fulfils texts (requests.Plain job file) status used used' out out' err err' =
    LeavesPlain job.now file.now status used used' out out' × (err' ≡ err)
Fulfils texts (requests.Pin job profile choices file) status used used' out out' err err' =
    LeavesPin job.now file.now profile.now choices.items status used used' out out' err err'
Fulfils texts (requests.Explain code) status used used' out out' err err' =
    LeavesExplanation texts (option_map (λ word. word.now) code) status out out' err err' × (used' ≡ used)
Fulfils texts requests.ProfileList status used used' out out' err err' =
    LeavesModels status out out' × (err' ≡ err) × (used' ≡ used)
Fulfils texts (requests.ProfileNew words) status used used' out out' err err' =
    LeavesProfile words.model.now (map (λ name. name.now) words.papers.items) words.lists status out out' err err'
    × (used' ≡ used)
Fulfils texts (requests.ProfileLint profiles) status used used' out out' err err' =
    LeavesLintFor (map (λ word. word.now) profiles.items) status used used' out out' err err'
Fulfils texts (requests.ProfileShow profile) status used used' out out' err err' =
    LeavesShownFor profile.now status used used' out out' err err'
Fulfils texts (requests.ProfileSheet profile file) status used used' out out' err err' =
    LeavesSheetFor profile.now file.now status used used' err err' × (out' ≡ out)
Fulfils texts (requests.ProfileFromPjl answer base) status used used' out out' err err' =
    LeavesAnsweredFor answer.now (option_map (λ word. word.now) base) status used used' out out' err err'

-- ---- what is asked for

abbrev pub AsksForPicture : Request → Type 0
AsksForPicture (requests.Picture job profile choices selection) = ⊤
AsksForPicture _ = ⊥

abbrev pub AsksForPdf : Request → Type 0
AsksForPdf (requests.Pdf job profile choices selection is_proof file) = ⊤
AsksForPdf _ = ⊥

abbrev pub AsksForPin : Request → Type 0
AsksForPin (requests.Pin job profile choices file) = ⊤
AsksForPin _ = ⊥
