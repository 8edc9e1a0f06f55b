-- What commands leave on files that are new.
use Rattle.std.proofs.Common.{◌≡◌, ◌∙◌, ◌⊎◌, ◌||◌, ◌++◌, ◌∷◌, ℕ, Bool, IsFalse, IsTrue, List, [], None, Option, Some, ap, append-nil, false}
use Rattle.std.proofs.Common.{inl, inr, map, refl, subst, sym, true}
use Rattle.std.specs.Prelude.{option_to_list}
use Rattle.profile_commands.specs.ProfileFromPjl.{AsksBaseIfAny, LeavesAnswered}
use Rattle.profile_commands.specs.ProfileLint.{LeavesLint}
use Rattle.profile_commands.specs.ProfileSheet.{LeavesSheet}
use Rattle.profile_commands.specs.ProfileShow.{LeavesShown}
use Rattle.pdf_command.specs.declared.command.PdfEnd.{PdfEnd}
use Rattle.pdf_command.specs.Pdf.{Around, EndsPdf, GivesUpBy, LeavesPdf}
use Rattle.picture_command.specs.Picture.{BeforeAndAfter, HasNoEnd, IsNamedBy, LeavesPicture}
use Rattle.renderings.specs.Expected.{Rendering, plain_rendering}
use Rattle.streams.specs.declared.error.Error.TheVariants.{Turns}
use Rattle.streams.proofs.Uses.{one_behind, one_more, one_read, one_written, others_behind, texts_read}
use Rattle.streams.specs.Ended.{JobRead}
use Rattle.streams.specs.Files.{FileOutletState, no_outlet, no_source}
use Rattle.streams.specs.Outlet.{OutletState}
use Rattle.streams.specs.Source.{SourceState}
use Rattle.streams.specs.Used.{FileUse, TextsAt, read_at, read_of_job, written_at}
use Rattle.named_inputs.specs.Choices.{TellsOfPin}
use Rattle.named_inputs.proofs.InputUses.{file_read, input_read}
use Rattle.named_inputs.specs.FileJobs.{is_input, reads_named}
use Rattle.named_inputs.specs.Fleet.{IsNamed, RefusesBy, RefusesOne, RefusesRead}
use Rattle.named_inputs.specs.Texts.{AsksInOrder, text_named}
use Rattle.requests.specs.Status.{is_stop_of_read, is_stop_of_write}
use Rattle.requests.specs.declared.choices.Choice.{Choice}
use Rattle.requests.specs.declared.many_words.Form.{Form}
use Rattle.requests.specs.declared.selection.Selection.{Selection}
use Rattle.requests.specs.declared.status.Status.{Status}
use Rattle.requests.specs.declared.status.Status.TheVariants.{Stopped}
use Rattle.subcommands.specs.Check.{IsRightFor, Leaves, texts_by}
use Rattle.subcommands.specs.JobNotes.{LeavesNotes}
use Rattle.subcommands.specs.JobTexts.{EndsBy, LeavesOut, LeavesPages, LeavesPinned, LeavesText}
use Rattle.survey.specs.Command.{LeavesSurvey}
use Rattle.file_requests.specs.Outs.{EndsDocument, EndsOut, PutsDocument, PutsOut}
use Rattle.file_requests.specs.JobRequests.{LeavesCheck, LeavesNotesFor, LeavesPagesFor, LeavesPictureOfFile, LeavesPin}
use Rattle.file_requests.specs.JobRequests.{LeavesPdfOfFile, LeavesPlain, LeavesRendered, LeavesSurveyOf}
use Rattle.file_requests.specs.ProfileRequests.{LeavesAnsweredFor, LeavesLintFor, LeavesSheetFor, LeavesShownFor}

-- ---- profiles

pub lint_left : (words given texts : List (List ℕ)) (failed : Bool) (status : Status) (out out' err err' : OutletState)
    (unasked named : List (List ℕ)) (used used' : List FileUse)
    → given ≡ [] → LeavesLint text_named words given texts failed status out out' err err'
    → unasked ≡ [] → AsksInOrder words unasked named → used' ≡ used ++ TextsAt named texts failed ∷ []
    → LeavesLintFor words status used used' out out' err err'
lint_left words given texts failed status out out' err err' unasked named used used' none left unnamed order told = record {
  texts = texts;
  failed = failed;
  asked = order.0;
  later = order.1;
  in_order = order.2;
  used_are = texts_read used used' unasked named texts order.0 failed unnamed order.3 told;
  left = subst (λ g. LeavesLint text_named words g texts failed status out out' err err') none left;
}

pub shown_left : (word : List ℕ) (given texts : List (List ℕ)) (failed : Bool) (status : Status) (out out' err err' : OutletState)
    (before named : List (List ℕ)) (used used' : List FileUse)
    → given ≡ [] → LeavesShown (text_named word) word given texts failed status out out' err err'
    → before ≡ [] → named ≡ before ++ word ∷ [] → used' ≡ used ++ TextsAt named texts failed ∷ []
    → LeavesShownFor word status used used' out out' err err'
shown_left word given texts failed status out out' err err' before named used used' none left unnamed are told = record {
  texts = texts;
  failed = failed;
  used_are = texts_read used used' before named texts (word ∷ []) failed unnamed are told;
  left = subst (λ g. LeavesShown (text_named word) word g texts failed status out out' err err') none left;
}

-- what was put in OUT's place is so in the history
puts_out : (into : List ℕ) (answer status : Status) (file : OutletState) (file' : FileOutletState) → EndsOut answer status file file' →
    PutsOut into answer status file (written_at into file'.outlet file'.is_put)
puts_out into answer status file file' (inl same) =
    inl (same.0, ap (λ (o : OutletState). written_at into o file'.is_put) same.1 ∙ ap (λ (b : Bool). written_at into file b) same.2)
puts_out into answer status file file' (inr stop) =
    let unput : OutletState = record file { failed = true } in
    inr (
      stop.0,
      stop.1,
      ap (λ (o : OutletState). written_at into o file'.is_put) stop.2 ∙ ap (λ (b : Bool). written_at into unput b) stop.3,
    )

pub sheet_left : (word into to : List ℕ) (given texts : List (List ℕ)) (failed : Bool) (answer status : Status)
    (out file err err' : OutletState) (file' : FileOutletState) (before named : List (List ℕ)) (used between used' : List FileUse)
    → given ≡ [] → out ≡ no_outlet → LeavesSheet (text_named word) word given texts failed answer out file err err'
    → EndsOut answer status file file'
    → before ≡ [] → named ≡ before ++ word ∷ [] → between ≡ used ++ TextsAt named texts failed ∷ []
    → to ≡ into → used' ≡ between ++ written_at to file'.outlet file'.is_put ∷ [] → LeavesSheetFor word into status used used' err err'
sheet_left word into to given texts failed answer status out file err err' file' before named used between used' none new left end
    unnamed are told is written = record {
      texts = texts;
      failed = failed;
      file = file;
      answer = answer;
      one = written_at into file'.outlet file'.is_put;
      used_are =
          one_more used between used' (TextsAt (word ∷ []) texts failed) (written_at into file'.outlet file'.is_put)
          (texts_read used between before named texts (word ∷ []) failed unnamed are told)
          (one_written between used' into to file'.outlet file'.is_put is written);
      left =
          subst (λ o. LeavesSheet (text_named word) word [] texts failed answer o file err err') new
          (subst (λ g. LeavesSheet (text_named word) word g texts failed answer out file err err') none left);
      put = puts_out into answer status file file' end;
    }

-- the text of the base was asked for, or none was
base_asked : (base : Option (List ℕ)) (old new : List (List ℕ)) → AsksBaseIfAny base old new → AsksInOrder (option_to_list base) old new
base_asked (Some word) old new (inl one) = (word ∷ [], [], refl, one)
base_asked (Some word) old new (inr same) = ([], word ∷ [], refl, same ∙ sym (append-nil old))
base_asked None old new (inl same) = ([], [], refl, same ∙ sym (append-nil old))
base_asked None old new (inr same) = ([], [], refl, same ∙ sym (append-nil old))

answered_left : (answer : List ℕ) (base : Option (List ℕ)) (given texts : List (List ℕ)) (failed : Bool) (status : Status)
    (source source' : SourceState) (out out' err err' : OutletState) (before named : List (List ℕ)) (used between used' : List FileUse)
    → given ≡ [] → source ≡ no_source → LeavesAnswered source source' text_named answer base given texts failed status out out' err err'
    → before ≡ [] → AsksBaseIfAny base before named → between ≡ used ++ TextsAt named texts failed ∷ []
    → used' ≡ between ++ reads_named answer source' → LeavesAnsweredFor answer base status used used' out out' err err'
answered_left answer base given texts failed status source source' out out' err err' before named used between used' none new left
    unnamed asks told read =
    let order = base_asked base before named asks in
    record {
      source = source';
      texts = texts;
      failed = failed;
      asked = order.0;
      later = order.1;
      in_order = order.2;
      used_are =
          others_behind used between used' (TextsAt order.0 texts failed) (reads_named answer source')
          (texts_read used between before named texts order.0 failed unnamed order.3 told) read;
      left =
          subst (λ s. LeavesAnswered s source' text_named answer base [] texts failed status out out' err err') new
          (subst (λ g. LeavesAnswered source source' text_named answer base g texts failed status out out' err err') none left);
    }

-- so where the answer is standard input
pub answered_by_input : (answer : List ℕ) (base : Option (List ℕ)) (given texts : List (List ℕ)) (failed : Bool) (status : Status)
    (source source' : SourceState) (out out' err err' : OutletState) (before named : List (List ℕ)) (used used' : List FileUse)
    → given ≡ [] → source ≡ no_source → LeavesAnswered source source' text_named answer base given texts failed status out out' err err'
    → before ≡ [] → AsksBaseIfAny base before named → used' ≡ used ++ TextsAt named texts failed ∷ []
    → is_input answer ≡ true → LeavesAnsweredFor answer base status used used' out out' err err'
answered_by_input answer base given texts failed status source source' out out' err err' before named used used' none new left unnamed
    asks told is =
    answered_left answer base given texts failed status source source' out out' err err' before named used used' used' none new left
    unnamed asks told (input_read used' answer source' is)

-- and where it is a file
pub answered_by_file : (answer at : List ℕ) (base : Option (List ℕ)) (given texts : List (List ℕ)) (failed : Bool) (status : Status)
    (source source' : SourceState) (out out' err err' : OutletState) (before named : List (List ℕ)) (used between used' : List FileUse)
    → given ≡ [] → source ≡ no_source → LeavesAnswered source source' text_named answer base given texts failed status out out' err err'
    → before ≡ [] → AsksBaseIfAny base before named → between ≡ used ++ TextsAt named texts failed ∷ []
    → is_input answer ≡ false → at ≡ answer → used' ≡ between ++ read_at at source' ∷ []
    → LeavesAnsweredFor answer base status used used' out out' err err'
answered_by_file answer at base given texts failed status source source' out out' err err' before named used between used' none new left
    unnamed asks told is place read =
    answered_left answer base given texts failed status source source' out out' err err' before named used between used' none new left
    unnamed asks told (file_read between used' answer at source' is place read)

-- ---- jobs

pub survey_left : (paths : List (List ℕ)) (form : Form) (jobs jobs' : List JobRead) (status : Status)
    (used used' : List FileUse) (out out' err err' : OutletState) → jobs ≡ []
    → used' ≡ used ++ map read_of_job jobs'
    → LeavesSurvey form paths (λ path. no_source) status jobs jobs' out out' err err'
    → LeavesSurveyOf paths form status used used' out out' err err'
survey_left paths form jobs jobs' status used used' out out' err err' none told left = record {
  jobs = jobs';
  used_are = told;
  left = subst (λ j. LeavesSurvey form paths (λ path. no_source) status j jobs' out out' err err') none left;
}

-- of files of which nothing was read
pub check_left : (path at : List ℕ) (words : List (List ℕ)) (known known' : List (Option (List ℕ))) (given given' : List (List ℕ))
    (before after : SourceState) (status : Status) (out out' : OutletState) (unasked named : List (List ℕ)) (failed : Bool)
    (used between used' : List FileUse) → known' ≡ known → given ≡ [] → before ≡ no_source
    → Leaves status (IsRightFor (texts_by known' given given') before after) out out' → RefusesBy given given' status
    → out'.failed ≡ is_stop_of_write status
    → unasked ≡ [] → AsksInOrder words unasked named → between ≡ used ++ TextsAt named given' failed ∷ []
    → at ≡ path → used' ≡ between ++ read_at at after ∷ []
    → LeavesCheck path words known status used used' out out'
check_left path at words known known' given given' before after status out out' unasked named failed used between used' same none new line
    refused write unnamed order told is read = record {
      job = after;
      texts = given';
      failed = failed;
      asked = order.0;
      later = order.1;
      in_order = order.2;
      line = subst (λ k. Leaves status (IsRightFor (texts_by k [] given') no_source after) out out') same
          (subst (λ g. Leaves status (IsRightFor (texts_by known' g given') no_source after) out out') none
          (subst (λ s. Leaves status (IsRightFor (texts_by known' given given') s after) out out') new line));
      refused = subst (λ g. RefusesBy g given' status) none refused;
      write = write;
      used_are =
          one_more used between used' (TextsAt order.0 given' failed) (read_at path after)
          (texts_read used between unasked named given' order.0 failed unnamed order.3 told)
          (one_read between used' path at after is read);
    }

pub rendered_left : (path at : List ℕ) (rendering : Rendering) (job job' : SourceState) (status : Status) (out out' : OutletState)
    (used used' : List FileUse)
    → job ≡ no_source → EndsBy status (λ s s'. LeavesText status rendering s s' out out') job job' job'.failed out'.failed
    → at ≡ path → used' ≡ used ++ read_at at job' ∷ [] → LeavesRendered path rendering status used used' out out'
rendered_left path at rendering job job' status out out' used used' new ends is read = record {
  job = job';
  used_are = one_read used used' path at job' is read;
  ends = subst (λ s. EndsBy status (λ s s'. LeavesText status rendering s s' out out') s job' job'.failed out'.failed) new ends;
}

pub plain_left : (path into at to : List ℕ) (job job' : SourceState) (answer status : Status) (out out' file file' : OutletState)
    (ended : FileOutletState) (used between used' : List FileUse)
    → job ≡ no_source → file ≡ no_outlet
    → EndsBy answer (λ s s'. LeavesOut answer plain_rendering s s' file file' out out') job job' job'.failed (file'.failed || out'.failed)
    → EndsOut answer status file' ended
    → at ≡ path → to ≡ into → between ≡ used ++ read_at at job' ∷ [] → used' ≡ between ++ written_at to ended.outlet ended.is_put ∷ []
    → LeavesPlain path into status used used' out out'
plain_left path into at to job job' answer status out out' file file' ended used between used' new unwritten ends end is is_out read
    written = record {
      job = job';
      file = file';
      answer = answer;
      one = written_at into ended.outlet ended.is_put;
      used_are = one_more used between used' (read_at path job') (written_at into ended.outlet ended.is_put)
          (one_read used between path at job' is read)
          (one_written between used' into to ended.outlet ended.is_put is_out written);
      ends =
          subst
          (λ f. EndsBy answer (λ s s'. LeavesOut answer plain_rendering s s' f file' out out') no_source job' job'.failed
          (file'.failed || out'.failed))
          unwritten
          (subst
          (λ s. EndsBy answer (λ s s'. LeavesOut answer plain_rendering s s' file file' out out') s job' job'.failed
          (file'.failed || out'.failed))
          new ends);
      put = puts_out into answer status file' ended end;
    }

-- the work stopped at a read just where one failed, whichever it was
pub at_reads : (status : Status) (Left : SourceState → SourceState → Type 0) (job job' : SourceState) (read_failed write_failed : Bool)
    → EndsBy status Left job job' read_failed write_failed → EndsBy status Left job job' (is_stop_of_read status) write_failed
at_reads status Left job job' read_failed write_failed ends = record {
  left = ends.left;
  read = refl;
  write = ends.write;
  turns = ends.turns;
}

-- by a text of a profile, too, of which none was read
pub pages_left : (path at word : List ℕ) (given texts : List (List ℕ)) (failed : Bool) (job job' : SourceState) (status : Status)
    (out out' : OutletState) (before named : List (List ℕ)) (used between used' : List FileUse)
    → given ≡ [] → job ≡ no_source
    → EndsBy status (λ s s'. LeavesPages status (IsNamed (text_named word) given texts) s s' out out') job job'
    (job'.failed || failed) out'.failed
    → before ≡ [] → named ≡ before ++ word ∷ [] → between ≡ used ++ TextsAt named texts failed ∷ []
    → at ≡ path → used' ≡ between ++ read_at at job' ∷ [] → LeavesPagesFor path word status used used' out out'
pages_left path at word given texts failed job job' status out out' before named used between used' none new ends unnamed are told is
    read = record {
      job = job';
      texts = texts;
      failed = failed;
      used_are =
          one_more used between used' (TextsAt (word ∷ []) texts failed) (read_at path job')
          (texts_read used between before named texts (word ∷ []) failed unnamed are told)
          (one_read between used' path at job' is read);
      ends =
          at_reads status (λ s s'. LeavesPages status (IsNamed (text_named word) [] texts) s s' out out') no_source job'
          (job'.failed || failed) out'.failed
          (subst
          (λ g. EndsBy status (λ s s'. LeavesPages status (IsNamed (text_named word) g texts) s s' out out') no_source job'
          (job'.failed || failed) out'.failed)
          none
          (subst
          (λ s. EndsBy status (λ s s'. LeavesPages status (IsNamed (text_named word) given texts) s s' out out') s job'
          (job'.failed || failed) out'.failed)
          new ends));
    }

pub notes_left : (path at word : List ℕ) (given texts : List (List ℕ)) (failed : Bool) (job job' : SourceState) (status : Status)
    (out out' : OutletState) (before named : List (List ℕ)) (used between used' : List FileUse)
    → given ≡ [] → job ≡ no_source
    → EndsBy status (λ s s'. LeavesNotes status (IsNamed (text_named word) given texts) s s' out out') job job'
    (job'.failed || failed) out'.failed
    → before ≡ [] → named ≡ before ++ word ∷ [] → between ≡ used ++ TextsAt named texts failed ∷ []
    → at ≡ path → used' ≡ between ++ read_at at job' ∷ [] → LeavesNotesFor path word status used used' out out'
notes_left path at word given texts failed job job' status out out' before named used between used' none new ends unnamed are told is
    read = record {
      job = job';
      texts = texts;
      failed = failed;
      used_are =
          one_more used between used' (TextsAt (word ∷ []) texts failed) (read_at path job')
          (texts_read used between before named texts (word ∷ []) failed unnamed are told)
          (one_read between used' path at job' is read);
      ends =
          at_reads status (λ s s'. LeavesNotes status (IsNamed (text_named word) [] texts) s s' out out') no_source job'
          (job'.failed || failed) out'.failed
          (subst
          (λ g. EndsBy status (λ s s'. LeavesNotes status (IsNamed (text_named word) g texts) s s' out out') no_source job'
          (job'.failed || failed) out'.failed)
          none
          (subst
          (λ s. EndsBy status (λ s s'. LeavesNotes status (IsNamed (text_named word) given texts) s s' out out') s job'
          (job'.failed || failed) out'.failed)
          new ends));
    }

pub pin_left : (path into at to word : List ℕ) (choices : List Choice) (given texts : List (List ℕ)) (failed : Bool)
    (job job' : SourceState) (answer status : Status) (out out' file file' err err' : OutletState) (ended : FileOutletState)
    (before named : List (List ℕ)) (used early between used' : List FileUse)
    → given ≡ [] → job ≡ no_source → file ≡ no_outlet
    → EndsBy answer (λ s s'. LeavesPinned answer (IsNamed (text_named word) given texts) choices s s' file file' out out') job job'
    (job'.failed || failed) (file'.failed || out'.failed)
    → TellsOfPin answer (IsNamed (text_named word) given texts) choices err err'
    → EndsOut answer status file' ended
    → before ≡ [] → named ≡ before ++ word ∷ [] → early ≡ used ++ TextsAt named texts failed ∷ []
    → at ≡ path → to ≡ into → between ≡ early ++ read_at at job' ∷ [] → used' ≡ between ++ written_at to ended.outlet ended.is_put ∷ []
    → LeavesPin path into word choices status used used' out out' err err'
pin_left path into at to word choices given texts failed job job' answer status out out' file file' err err' ended before named used early
    between used' none new unwritten ends choice end unnamed are told is is_out read written = record {
      job = job';
      texts = texts;
      failed = failed;
      file = file';
      answer = answer;
      one = written_at into ended.outlet ended.is_put;
      used_are =
          one_behind used between used' (TextsAt (word ∷ []) texts failed ∷ read_at path job' ∷ [])
          (written_at into ended.outlet ended.is_put)
          (one_more used early between (TextsAt (word ∷ []) texts failed) (read_at path job')
          (texts_read used early before named texts (word ∷ []) failed unnamed are told) (one_read early between path at job' is read))
          (one_written between used' into to ended.outlet ended.is_put is_out written);
      ends =
          at_reads answer (λ s s'. LeavesPinned answer (IsNamed (text_named word) [] texts) choices s s' no_outlet file' out out') no_source
          job' (job'.failed || failed) (file'.failed || out'.failed)
          (subst
          (λ f. EndsBy answer (λ s s'. LeavesPinned answer (IsNamed (text_named word) [] texts) choices s s' f file' out out') no_source
          job' (job'.failed || failed) (file'.failed || out'.failed))
          unwritten
          (subst
          (λ g. EndsBy answer (λ s s'. LeavesPinned answer (IsNamed (text_named word) g texts) choices s s' file file' out out') no_source
          job' (job'.failed || failed) (file'.failed || out'.failed))
          none
          (subst
          (λ s. EndsBy answer (λ s s'. LeavesPinned answer (IsNamed (text_named word) given texts) choices s s' file file' out out') s job'
          (job'.failed || failed) (file'.failed || out'.failed))
          new ends)));
      choice = subst (λ g. TellsOfPin answer (IsNamed (text_named word) g texts) choices err err') none choice;
      put = puts_out into answer status file' ended end;
    }

-- what was put in OUT's place of a document is so in the history
puts_document : (into : List ℕ) (end : PdfEnd) (status : Status) (file : OutletState) (file' : FileOutletState) →
    EndsDocument end status file file' → PutsDocument into end status file (written_at into file'.outlet file'.is_put)
puts_document into end status file file' (inl same) =
    inl (same.0, ap (λ (o : OutletState). written_at into o file'.is_put) same.1 ∙ ap (λ (b : Bool). written_at into file b) same.2)
puts_document into end status file file' (inr stop) =
    let unput : OutletState = record file { failed = true } in
    inr (
      stop.0,
      stop.1,
      ap (λ (o : OutletState). written_at into o file'.is_put) stop.2 ∙ ap (λ (b : Bool). written_at into unput b) stop.3,
    )

-- one of two readings failed, or that of a text
pub reads_stop : (first second text stops : Bool) → (first || second || text) ≡ stops → IsTrue (first || second) → IsTrue stops
reads_stop true second text stops is failed = sym is
reads_stop false true text stops is failed = sym is
reads_stop false false text stops is failed = cc

abbrev around_pdf : (first first' job job' : SourceState) (file file' out out' err err' : OutletState) → Around
around_pdf first first' job job' file file' out out' err err' = record {
  first = first;
  first' = first';
  second = job;
  second' = job';
  out = file;
  out' = file';
  line = out;
  line' = out';
  err = err;
  err' = err';
}

-- how the document of a job ends, for the printer of this word by these texts
abbrev document_ends : PdfEnd → (word : List ℕ) → (most : Option ℕ) → List Choice → Selection → Bool → (path : List ℕ) →
    (given texts : List (List ℕ)) → Around → (read_failed write_failed : Bool) → Type 0
document_ends end word most choices selection is_proof path given texts a read_failed write_failed =
    EndsPdf end (LeavesPdf end (IsNamedBy given texts (IsNamed (text_named word) given texts)) most choices selection is_proof path) a
    read_failed write_failed

-- the work stopped at a read just where one failed, whichever it was
document_reads : (end : PdfEnd) (Left : Around → Type 0) (a : Around) (read_failed write_failed : Bool)
    → EndsPdf end Left a read_failed write_failed → EndsPdf end Left a (is_stop_of_read end.status) write_failed
document_reads end Left a read_failed write_failed ends = record {
  left = ends.left;
  read = refl;
  write = ends.write;
  turns = ends.turns;
}

pub pdf_left : (path into at again to word : List ℕ) (most : Option ℕ) (choices : List Choice) (selection : Selection) (is_proof : Bool)
    (given texts : List (List ℕ)) (failed : Bool) (first first' job job' : SourceState) (end : PdfEnd) (status : Status)
    (out out' file file' err err' : OutletState) (over : FileOutletState) (before named : List (List ℕ))
    (used early middle between used' : List FileUse)
    → given ≡ [] → first ≡ no_source → job ≡ no_source → file ≡ no_outlet
    → document_ends end word most choices selection is_proof path given texts
    (around_pdf first first' job job' file file' out out' err err')
    (first'.failed || job'.failed || failed) (file'.failed || out'.failed)
    → TellsOfPin end.status (IsNamed (text_named word) given texts) choices err err'
    → (IsFalse end.lacks_page → GivesUpBy end.status end.gives_up out out')
    → EndsDocument end status file' over
    → before ≡ [] → named ≡ before ++ word ∷ [] → early ≡ used ++ TextsAt named texts failed ∷ []
    → at ≡ path → again ≡ path → to ≡ into
    → middle ≡ early ++ read_at at first' ∷ [] → between ≡ middle ++ read_at again job' ∷ []
    → used' ≡ between ++ written_at to over.outlet over.is_put ∷ []
    → LeavesPdfOfFile path into word most choices selection is_proof status used used' out out' err err'
pdf_left path into at again to word most choices selection is_proof given texts failed first first' job job' end status out out' file
    file' err err' over before named used early middle between used' none new new' unwritten ends choice limit closed unnamed are told is
    is' is_out reads reads' written =
    let asked = TextsAt (word ∷ []) texts failed in
    let one = written_at into over.outlet over.is_put in
    let read_failed = first'.failed || job'.failed || failed in
    let write_failed = file'.failed || out'.failed in
    let both : between ≡ used ++ asked ∷ read_at path first' ∷ read_at path job' ∷ [] =
    one_behind used middle between (asked ∷ read_at path first' ∷ []) (read_at path job')
    (one_more used early middle asked (read_at path first')
    (texts_read used early before named texts (word ∷ []) failed unnamed are told) (one_read early middle path at first' is reads))
    (one_read middle between path again job' is' reads') in
    record {
      first = first';
      job = job';
      texts = texts;
      failed = failed;
      file = file';
      end = end;
      one = one;
      used_are =
          one_behind used between used' (asked ∷ read_at path first' ∷ read_at path job' ∷ []) one both
          (one_written between used' into to over.outlet over.is_put is_out written);
      ends =
          document_reads end
          (LeavesPdf end (IsNamedBy [] texts (IsNamed (text_named word) [] texts)) most choices selection is_proof path)
          (around_pdf no_source first' no_source job' no_outlet file' out out' err err') read_failed write_failed
          (subst
          (λ f. document_ends end word most choices selection is_proof path [] texts
          (around_pdf no_source first' no_source job' f file' out out' err err') read_failed write_failed)
          unwritten
          (subst
          (λ g. document_ends end word most choices selection is_proof path g texts
          (around_pdf no_source first' no_source job' file file' out out' err err') read_failed write_failed)
          none
          (subst
          (λ s. document_ends end word most choices selection is_proof path given texts
          (around_pdf no_source first' s job' file file' out out' err err') read_failed write_failed)
          new'
          (subst
          (λ s. document_ends end word most choices selection is_proof path given texts
          (around_pdf s first' job job' file file' out out' err err') read_failed write_failed)
          new ends))));
      read = reads_stop first'.failed job'.failed failed (is_stop_of_read end.status) ends.read;
      choice = subst (λ g. TellsOfPin end.status (IsNamed (text_named word) g texts) choices err err') none choice;
      limit = limit;
      put = puts_document into end status file' over closed;
    }

abbrev around : (first first' second second' : SourceState) (out out' err err' : OutletState) → BeforeAndAfter
around first first' second second' out out' err err' = record {
  first = first;
  first' = first';
  second = second;
  second' = second';
  out = out;
  out' = out';
  err = err;
  err' = err';
}

pub picture_left : (word : List ℕ) (choices : List Choice) (selection : Selection) (job at again : List ℕ) (given texts : List (List ℕ))
    (failed : Bool) (first first' second second' : SourceState) (status : Status) (out out' err err' : OutletState)
    (before named : List (List ℕ)) (used early between used' : List FileUse)
    → given ≡ [] → first ≡ no_source → second ≡ no_source
    → LeavesPicture status (IsNamedBy given texts (IsNamed (text_named word) given texts)) choices selection job
    (around first first' second second' out out' err err')
    → (first'.failed || second'.failed || failed) ≡ is_stop_of_read status → out'.failed ≡ is_stop_of_write status
    → (status ≡ Stopped Turns → HasNoEnd first first' ⊎ HasNoEnd second second')
    → RefusesOne (text_named word) status → RefusesRead given texts 1 status
    → TellsOfPin status (IsNamed (text_named word) given texts) choices err err'
    → before ≡ [] → named ≡ before ++ word ∷ [] → early ≡ used ++ TextsAt named texts failed ∷ []
    → at ≡ job → again ≡ job → between ≡ early ++ read_at at first' ∷ [] → used' ≡ between ++ read_at again second' ∷ []
    → LeavesPictureOfFile word choices selection job status used used' out out' err err'
picture_left word choices selection job at again given texts failed first first' second second' status out out' err err' before named used
    early between used' none new new' left read write turns refusal refused choice unnamed are told is is' reads reads' = record {
      first = first';
      second = second';
      texts = texts;
      failed = failed;
      used_are =
          one_behind used between used' (TextsAt (word ∷ []) texts failed ∷ read_at job first' ∷ []) (read_at job second')
          (one_more used early between (TextsAt (word ∷ []) texts failed) (read_at job first')
          (texts_read used early before named texts (word ∷ []) failed unnamed are told) (one_read early between job at first' is reads))
          (one_read between used' job again second' is' reads');
      left =
          subst
          (λ g. LeavesPicture status (IsNamedBy g texts (IsNamed (text_named word) g texts)) choices selection job
          (around no_source first' no_source second' out out' err err'))
          none
          (subst
          (λ s. LeavesPicture status (IsNamedBy given texts (IsNamed (text_named word) given texts)) choices selection job
          (around s first' no_source second' out out' err err'))
          new
          (subst
          (λ s. LeavesPicture status (IsNamedBy given texts (IsNamed (text_named word) given texts)) choices selection job
          (around first first' s second' out out' err err'))
          new' left));
      read = reads_stop first'.failed second'.failed failed (is_stop_of_read status) read;
      write = write;
      turns =
          subst (λ s. status ≡ Stopped Turns → HasNoEnd s first' ⊎ HasNoEnd no_source second') new
          (subst (λ s. status ≡ Stopped Turns → HasNoEnd first first' ⊎ HasNoEnd s second') new' turns);
      refusal = refusal;
      refused = subst (λ g. RefusesRead g texts 1 status) none refused;
      choice = subst (λ g. TellsOfPin status (IsNamed (text_named word) g texts) choices err err') none choice;
    }
