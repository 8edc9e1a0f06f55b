-- What the commands on one job come to. Nothing is known of files beforehand, so this is said for what the history of
-- files tells: which were read and which were written, at which path, and what that came to.
-- It has those of a job, of OUT and of the texts of profiles.
use Rattle.std.specs.Prelude.{◌≡◌, ◌⊎◌, ◌||◌, [], ◌∷◌, ◌++◌, ℕ, Bool, List, Option, IsFalse, IsTrue, codes, map}
use Rattle.streams.specs.declared.error.Error.TheVariants.{Turns}
use Rattle.renderings.specs.Expected.{Rendering, plain_rendering}
use Rattle.streams.specs.Ended.{JobRead}
use Rattle.streams.specs.Files.{no_outlet, no_source}
use Rattle.streams.specs.Outlet.{OutletState}
use Rattle.streams.specs.Source.{SourceState}
use Rattle.streams.specs.Used.{FileUse, TextsAt, read_at, read_of_job}
use Rattle.requests.specs.declared.many_words.Form.{Form}
use Rattle.requests.specs.declared.selection.Selection.{Selection}
use Rattle.named_inputs.specs.Fleet.{IsNamed, RefusesBy, RefusesOne, RefusesRead}
use Rattle.subcommands.specs.Check.{IsRightFor, Leaves, texts_by}
use Rattle.subcommands.specs.JobNotes.{LeavesNotes}
use Rattle.survey.specs.Command.{LeavesSurvey}
use Rattle.subcommands.specs.JobTexts.{EndsBy, LeavesOut, LeavesPages, LeavesPinned, LeavesText}
use Rattle.named_inputs.specs.Choices.{TellsOfPin}
use Rattle.pdf_command.specs.declared.command.PdfEnd.{PdfEnd}
use Rattle.pdf_command.specs.Pdf.{EndsPdf, GivesUpBy, LeavesPdf}
use Rattle.picture_command.specs.Picture.{HasNoEnd, IsNamedBy, LeavesPicture}
use Rattle.file_requests.specs.Outs.{PutsDocument, PutsOut}
use Rattle.requests.specs.Status.{is_stop_of_read, is_stop_of_write}
use Rattle.named_inputs.specs.Texts.{text_named}
use Rattle.requests.specs.declared.choices.Choice.{Choice}
use Rattle.requests.specs.declared.status.Status.{Status}
use Rattle.requests.specs.declared.status.Status.TheVariants.{Stopped}
use Rattle.job_reports.specs.Pipes.{RefusesPipe}

-- a check of the job at a path for the printers of the texts that these words name, so far as they are known:
-- the line of a verdict that is right for all of them; of the words the first ones were asked for, as far as it came
pub record LeavesCheck (path : List ℕ) (words : List (List ℕ)) (known : List (Option (List ℕ))) (status : Status)
    (used used' : List FileUse) (out out' : OutletState) : Type 0 where
  pub job : SourceState
  pub texts : List (List ℕ)
  pub failed : Bool
  pub asked : List (List ℕ)
  pub later : List (List ℕ)
  pub in_order : words ≡ asked ++ later
  pub line : Leaves status (IsRightFor (texts_by known [] texts) no_source job) out out'
  pub refused : RefusesBy [] texts status
  pub write : out'.failed ≡ is_stop_of_write status
  pub used_are : used' ≡ used ++ TextsAt asked texts failed ∷ read_at path job ∷ []

-- what is due of the job at a path by this rendering
pub record LeavesRendered (path : List ℕ) (rendering : Rendering) (status : Status) (used used' : List FileUse)
    (out out' : OutletState) : Type 0 where
  pub job : SourceState
  pub used_are : used' ≡ used ++ read_at path job ∷ []
  pub ends :
      EndsBy status (λ old new. LeavesText status rendering old new out out') no_source job job.failed out'.failed

-- What is counted of the jobs at these paths is written: nothing is known of what their reads give beforehand.
pub record LeavesSurveyOf (paths : List (List ℕ)) (form : Form) (status : Status) (used used' : List FileUse)
    (out out' err err' : OutletState) : Type 0 where
  pub jobs : List JobRead
  pub used_are : used' ≡ used ++ map read_of_job jobs
  pub left : LeavesSurvey form paths (λ path. no_source) status [] jobs out out' err err'

-- the pages of the job at a path on the printer that this word names
pub record LeavesPagesFor (path word : List ℕ) (status : Status) (used used' : List FileUse)
    (out out' : OutletState) : Type 0 where
  pub job : SourceState
  pub texts : List (List ℕ)
  pub failed : Bool
  pub used_are : used' ≡ used ++ TextsAt (word ∷ []) texts failed ∷ read_at path job ∷ []
  pub ends : EndsBy status (λ old new. LeavesPages status (IsNamed (text_named word) [] texts) old new out out')
      no_source job (is_stop_of_read status) out'.failed

-- what the job at a path leaves to the printer that this word names
pub record LeavesNotesFor (path word : List ℕ) (status : Status) (used used' : List FileUse)
    (out out' : OutletState) : Type 0 where
  pub job : SourceState
  pub texts : List (List ℕ)
  pub failed : Bool
  pub used_are : used' ≡ used ++ TextsAt (word ∷ []) texts failed ∷ read_at path job ∷ []
  pub ends : EndsBy status (λ old new. LeavesNotes status (IsNamed (text_named word) [] texts) old new out out')
      no_source job (is_stop_of_read status) out'.failed

-- why a picture reads its job again: to draw what was found
abbrev pub read_to_draw : List ℕ
read_to_draw = codes "a picture is drawn at a second reading\n"

-- Pages of the job at a path as pictures, from the panel that is chosen of the printer that this word names.
-- The job is read twice; the work stops where one of these reads fails, and for its turns after 2^40 reads.
pub record LeavesPictureOfFile (word : List ℕ) (choices : List Choice) (selection : Selection) (job : List ℕ)
    (status : Status) (used used' : List FileUse) (out out' err err' : OutletState) : Type 0 where
  pub first : SourceState
  pub second : SourceState
  pub texts : List (List ℕ)
  pub failed : Bool
  pub used_are : used' ≡ used ++ TextsAt (word ∷ []) texts failed ∷ read_at job first ∷ read_at job second ∷ []
  pub left : LeavesPicture status (IsNamedBy [] texts (IsNamed (text_named word) [] texts)) choices selection job
      (record {
        first = no_source;
        first' = first;
        second = no_source;
        second' = second;
        out = out;
        out' = out';
        err = err;
        err' = err';
      })
  pub read : IsTrue (first.failed || second.failed) → IsTrue (is_stop_of_read status)
  pub write : out'.failed ≡ is_stop_of_write status
  pub turns : status ≡ Stopped Turns → HasNoEnd no_source first ⊎ HasNoEnd no_source second
  pub refusal : RefusesOne (text_named word) status
  pub refused : RefusesRead [] texts 1 status
  pub choice : TellsOfPin status (IsNamed (text_named word) [] texts) choices err err'

-- the same, unless the job is no file and is refused, since it cannot be read twice
abbrev pub LeavesPictureFor : (word : List ℕ) → List Choice → Selection → (job : List ℕ) → Status → List FileUse →
    List FileUse → OutletState → OutletState → OutletState → OutletState → Type 0
LeavesPictureFor word choices selection job status used used' out out' err err' =
    LeavesPictureOfFile word choices selection job status used used' out out' err err'
    ⊎ (RefusesPipe (job ∷ []) read_to_draw status err err' × (out' ≡ out) × (used' ≡ used))

-- the job at a path in its canonical spelling, put in the place of the file at another
pub record LeavesPlain (path into : List ℕ) (status : Status) (used used' : List FileUse)
    (out out' : OutletState) : Type 0 where
  pub job : SourceState
  pub file : OutletState
  pub answer : Status
  pub one : FileUse
  pub used_are : used' ≡ used ++ read_at path job ∷ one ∷ []
  pub ends : EndsBy answer (λ old new. LeavesOut answer plain_rendering old new no_outlet file out out') no_source job
      job.failed (file.failed || out'.failed)
  pub put : PutsOut into answer status file one

-- the job at a path, pinned to the panel that is chosen of the printer that this word names, put in the place of the
-- file at another
pub record LeavesPin (path into word : List ℕ) (choices : List Choice) (status : Status) (used used' : List FileUse)
    (out out' err err' : OutletState) : Type 0 where
  pub job : SourceState
  pub texts : List (List ℕ)
  pub failed : Bool
  pub file : OutletState
  pub answer : Status
  pub one : FileUse
  pub used_are : used' ≡ used ++ TextsAt (word ∷ []) texts failed ∷ read_at path job ∷ one ∷ []
  pub ends : EndsBy answer
      (λ old new. LeavesPinned answer (IsNamed (text_named word) [] texts) choices old new no_outlet file out out')
      no_source job (is_stop_of_read answer) (file.failed || out'.failed)
  pub choice : TellsOfPin answer (IsNamed (text_named word) [] texts) choices err err'
  pub put : PutsOut into answer status file one

-- why a document reads its job again: to write what was found
abbrev pub read_to_write : List ℕ
read_to_write = codes "a document is written at a second reading\n"

-- Pages of the job at a path as a document, from the panel that is chosen of the printer that this word names, put in
-- the place of the file at another. The job is read twice; the work stops where one of these reads fails, and for its
-- turns after 2^40 reads.
pub record LeavesPdfOfFile (path into word : List ℕ) (most : Option ℕ) (choices : List Choice) (selection : Selection)
    (is_proof : Bool) (status : Status) (used used' : List FileUse) (out out' err err' : OutletState) : Type 0 where
  pub first : SourceState
  pub job : SourceState
  pub texts : List (List ℕ)
  pub failed : Bool
  pub file : OutletState
  pub end : PdfEnd
  pub one : FileUse
  pub used_are : used' ≡ used ++ TextsAt (word ∷ []) texts failed ∷ read_at path first ∷ read_at path job ∷ one ∷ []
  pub ends : EndsPdf end
      (LeavesPdf end (IsNamedBy [] texts (IsNamed (text_named word) [] texts)) most choices selection is_proof path)
      (record {
        first = no_source;
        first' = first;
        second = no_source;
        second' = job;
        out = no_outlet;
        out' = file;
        line = out;
        line' = out';
        err = err;
        err' = err';
      })
      (is_stop_of_read end.status) (file.failed || out'.failed)
  pub read : IsTrue (first.failed || job.failed) → IsTrue (is_stop_of_read end.status)
  pub choice : TellsOfPin end.status (IsNamed (text_named word) [] texts) choices err err'
  pub limit : IsFalse end.lacks_page → GivesUpBy end.status end.gives_up out out'
  pub put : PutsDocument into end status file one

-- the same, unless the job is no file and is refused, since it cannot be read twice
abbrev pub LeavesPdfAt : (path into word : List ℕ) → (most : Option ℕ) → List Choice → Selection → (is_proof : Bool) →
    Status → List FileUse → List FileUse → OutletState → OutletState → OutletState → OutletState → Type 0
LeavesPdfAt path into word most choices selection is_proof status used used' out out' err err' =
    LeavesPdfOfFile path into word most choices selection is_proof status used used' out out' err err'
    ⊎ (RefusesPipe (path ∷ []) read_to_write status err err' × (out' ≡ out) × (used' ≡ used))
