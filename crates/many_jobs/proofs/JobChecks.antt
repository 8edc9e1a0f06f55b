-- Lemmas on the lines of many jobs.
use Rattle.std.proofs.Common.{◌≡◌, ◌≢◌, ◌<◌, ◌+◌, ◌-◌, suc, if◌then◌else◌, IfOk, IfErr, IsErrOf, length-drop, zero, ℕ, List, [], ◌∷◌, ◌++◌}
use Rattle.std.proofs.Common.{map, flat_map, fold, take, drop, length, get_or, Bool, true, false, Option, None, Some, Result, Ok, Err, refl}
use Rattle.std.proofs.Common.{sym, ◌∙◌, ap, append_assoc, append-nil, inl, inr, subst, arith}
use Rattle.std.proofs.Math.Seq.{split_at}
use Rattle.std.specs.List.{AllByRecursion, range_with_len}
use Rattle.std.proofs.lemmas.List.{length-take, map-append, map_more}
use Rattle.std.proofs.lemmas.List.Elements.{Contains-append_left, Contains-append_right}
use Rattle.std.specs.Prelude.{Contains}
use Rattle.device_profile.specs.Printer.{Printer}
use Rattle.judgement.specs.Verdict.{IsExact, VerdictHolds, NeedsEachRead}
use Rattle.job_reports.specs.Right.{IsRightVerdict}
use Rattle.streams.specs.Pieces.{ByReads}
use Rattle.std.proofs.lemmas.Grind.{flat_map-append, fold-append}
use Rattle.std.proofs.lemmas.List.FromFn.{map-range_with_len_more}
use Rattle.streams.specs.declared.error.Error.{Error}
use Rattle.streams.specs.declared.error.Error.TheVariants.{Memory, Read, Write, Turns, NoProfile, Items}
use Rattle.judgement.specs.declared.failing_item.Judgement.{Judgement}
use Rattle.streams.specs.Ended.{JobRead, job_read}
use Rattle.streams.specs.Outlet.{OutletState, Adds, AddsFront}
use Rattle.streams.specs.Source.{SourceState}
use Rattle.streams.proofs.OutletFacts.{Adds-none, Adds-trans}
use Rattle.many_jobs.specs.declared.ending.Ending.{Ending}
use Rattle.many_jobs.specs.declared.ending.Ending.TheVariants.{Passes, Fails, HasNoVerdict}
use Rattle.job_reports.specs.Groups.{Groups, group_at, group_count, of_group, reported}
use Rattle.many_jobs.specs.JobChecks.{AddsTold, AreOfDue, AreRightToCut, CutsNotes, CutsTold, IsErrorOfJob, IsErrorOfLine}
use Rattle.many_jobs.specs.JobChecks.{IsRightAnswer, IsRightLine}
use Rattle.many_jobs.specs.JobChecks.{CheckLine, TellsLines, TellsAll, TellsFront, TellsNotes, Work, afters, afters_of, due_of, ending_of}
use Rattle.many_jobs.specs.JobChecks.{AddsRow, CutsRow, TellsRow, ending_of_line, in_document, job_due, keyed, line_text, work}
use Rattle.many_jobs.specs.JobChecks.{worse, worst}
use Rattle.many_jobs.specs.JobNoting.{IsRightlyNoted, Noted, ending_of_noted, ending_of_notes, note_printer, noted_after, noted_text}
use Rattle.many_jobs.specs.JobNoting.{notes_text}
use Rattle.many_jobs.specs.JobRow.{IsReread, Reread, RowRead, near_of_job, page_of_job, reread_after, row_afters, row_told}
use Rattle.notes.specs.Note.{Told as ToldNote}
use Rattle.many_jobs.specs.NoteReports.{subject_of, told_note}
use Rattle.device_profile.specs.Name.{printer_name}
use Rattle.notes.specs.Notes.{with_most_items}
use Rattle.many_jobs.specs.CheckMany.{AreOfTexts, limited}
use Rattle.many_jobs.specs.KeptTexts.{AreNotePrinters}
use Rattle.device_profile.specs.Text.{printer_of_text}
use Rattle.named_inputs.specs.Fleet.{DescribeBy, DescribeFleet, IsEndOfFleet}
use Rattle.named_inputs.proofs.FleetFacts.{DescribeBy-more}
use Rattle.named_inputs.specs.Texts.{IsErrorOfReading}
use Rattle.requests.specs.declared.status.Status.{Status}
use Rattle.requests.specs.declared.status.Status.TheVariants.{Stopped}
use Rattle.job_reports.specs.Reports.{verdict_told}
use Rattle.many_jobs.specs.Telling.{HowTold, is_html, report_text}

-- ---- the worst of endings

worse-assoc : (a b c : Ending) → worse (worse a b) c ≡ worse a (worse b c)
worse-assoc Passes b c = refl
worse-assoc Fails Passes c = refl
worse-assoc Fails Fails Passes = refl
worse-assoc Fails Fails Fails = refl
worse-assoc Fails Fails HasNoVerdict = refl
worse-assoc Fails HasNoVerdict c = refl
worse-assoc HasNoVerdict b c = refl

worse-passes : (a : Ending) → worse a Passes ≡ a
worse-passes Passes = refl
worse-passes Fails = refl
worse-passes HasNoVerdict = refl

module _ (telling : HowTold) where
  abbrev one_more : Ending → CheckLine → Ending
  one_more ending line = worse ending (ending_of_line telling line)

  fold_worse : (start : Ending) (lines : List CheckLine) → fold one_more start lines ≡ worse start (worst telling lines)
  fold_worse start [] = sym (worse-passes start)
  fold_worse start (line ∷ lines) =
      fold_worse (one_more start line) lines
      ∙ worse-assoc start (ending_of_line telling line) (worst telling lines)
      ∙ ap (worse start) (sym (fold_worse (ending_of_line telling line) lines))

  pub worst-append : (xs ys : List CheckLine) → worst telling (xs ++ ys) ≡ worse (worst telling xs) (worst telling ys)
  worst-append xs ys = fold-append one_more Passes xs ys ∙ fold_worse (worst telling xs) ys

-- ---- lines behind lines

All-append : {X : Type 0} (P : X → Type 0) (xs ys : List X) → AllByRecursion P xs → AllByRecursion P ys → AllByRecursion P (xs ++ ys)
All-append P [] ys first second = second
All-append P (x ∷ xs) ys first second = (first.0, All-append P xs ys first.1 second)

-- they are of what is due among more
of_due_among : (before due later : List (List ℕ × ℕ)) (reads : List JobRead) → AreOfDue due reads →
    AreOfDue (before ++ (due ++ later)) reads
of_due_among before due later [] all = tt
of_due_among before due later (read ∷ reads) all = (
  subst (λ (names : List (List ℕ)). Contains names read.name)
      (sym (map-append job_due before (due ++ later) ∙ ap (λ (names : List (List ℕ)). map job_due before ++ names)
      (map-append job_due due later)))
      (Contains-append_right (map job_due before) (map job_due due ++ map job_due later) read.name
      (Contains-append_left (map job_due due) (map job_due later) read.name all.0)),
  of_due_among before due later reads all.1,
)

-- the further readings of a job of which a line is due
module _ (job : List ℕ) (number : ℕ) where
  noted_of_due : (noted : Option Noted) → AreOfDue ((job, number) ∷ []) (noted_after job noted)
  noted_of_due None = tt
  noted_of_due (Some noted) = ((0, omega arith, refl), tt)

  reread_of_due : (read : Option Reread) → AreOfDue ((job, number) ∷ []) (reread_after job read)
  reread_of_due None = tt
  reread_of_due (Some read) = ((0, omega arith, refl), tt)

  row_of_due : (noted : Option Noted) (near page : Option Reread) → AreOfDue ((job, number) ∷ []) (row_afters job noted near page)
  row_of_due noted near page =
      All-append (λ (read : JobRead). Contains (map job_due ((job, number) ∷ [])) read.name)
      (noted_after job noted ++ reread_after job near) (reread_after job page)
      (All-append (λ (read : JobRead). Contains (map job_due ((job, number) ∷ [])) read.name) (noted_after job noted)
      (reread_after job near) (noted_of_due noted) (reread_of_due near))
      (reread_of_due page)

abbrev key : CheckLine → List ℕ × ℕ
key line = (line.job, line.group)

module _ (groups : Groups) (telling : HowTold) (start : List ℕ → SourceState) where
  -- lines that are right, and then some of which the last may lack its notes
  right_behind : (xs ys : List CheckLine) → AllByRecursion (IsRightLine groups telling start) xs → AreRightToCut groups telling start ys →
      AreRightToCut groups telling start (xs ++ ys)
  right_behind [] ys first second = second
  right_behind (x ∷ xs) ys first second = (inl first.0, right_behind xs ys first.1 second)

  pub tells_none : (old : Work) → TellsAll groups telling [] start Passes old old
  tells_none old = ([], record { in_order = refl; right = tt; written = Adds-none old.out; ended = sym (append-nil old.ended) }, refl)

  module _ (due due' : List (List ℕ × ℕ)) (old mid new : Work) where
    tells_both : (lines lines' : List CheckLine) → TellsLines groups telling start due lines old mid →
        TellsLines groups telling start due' lines' mid new → TellsLines groups telling start (due ++ due') (lines ++ lines') old new
    tells_both lines lines' first second = record {
      in_order = map-append key lines lines' ∙ ap (λ ks. ks ++ map key lines') first.in_order ∙ ap (λ ks. due ++ ks) second.in_order;
      right = All-append (IsRightLine groups telling start) lines lines' first.right second.right;
      written = subst (Adds old.out new.out) (sym (flat_map-append (line_text groups telling) lines lines'))
          (Adds-trans old.out mid.out new.out (flat_map (line_text groups telling) lines)
          (flat_map (line_text groups telling) lines') first.written second.written);
      ended = second.ended ∙ ap (λ es. es ++ afters lines') first.ended ∙ append_assoc old.ended (afters lines) (afters lines')
          ∙ ap (λ es. old.ended ++ es) (sym (flat_map-append afters_of lines lines'));
    }

    pub tells_more : (ending ending' : Ending) → TellsAll groups telling due start ending old mid →
        TellsAll groups telling due' start ending' mid new → TellsAll groups telling (due ++ due') start (worse ending ending') old new
    tells_more ending ending' first second = (
      first.0 ++ second.0,
      tells_both first.0 second.0 first.1 second.1,
      ap (λ e. worse e ending') first.2 ∙ ap (worse (worst telling first.0)) second.2
          ∙ sym (worst-append telling first.0 second.0),
    )

    -- behind lines that stand there some front was written
    pub front_behind : (later : List (List ℕ × ℕ)) (ending : Ending) → TellsAll groups telling due start ending old mid →
        TellsFront groups telling start due' mid new → TellsFront groups telling start (due ++ (due' ++ later)) old new
    front_behind later ending first second =
        let text = flat_map (line_text groups telling) first.0 in
        let more = second.written in
        record {
          lines = first.0 ++ second.lines;
          later = second.later ++ later;
          untold = second.untold;
          of_due = of_due_among due due' later second.untold second.of_due;
          in_order =
              ap (λ ks. ks ++ (second.later ++ later))
              (map-append key first.0 second.lines ∙ ap (λ ks. ks ++ map key second.lines) first.1.in_order)
              ∙ append_assoc due (map key second.lines) (second.later ++ later)
              ∙ ap (λ ks. due ++ ks)
              (sym (append_assoc (map key second.lines) second.later later) ∙ ap (λ ks. ks ++ later) second.in_order);
          right = right_behind first.0 second.lines first.1.right second.right;
          written = (
            text ++ more.0,
            more.1,
            flat_map-append (line_text groups telling) first.0 second.lines ∙ ap (λ t. text ++ t) more.2
                ∙ sym (append_assoc text more.0 more.1),
            Adds-trans old.out mid.out new.out text more.0 first.1.written more.3,
          );
          ended = second.ended ∙ ap (λ es. es ++ (afters second.lines ++ second.untold)) first.1.ended
              ∙ append_assoc old.ended (afters first.0) (afters second.lines ++ second.untold)
              ∙ ap (λ es. old.ended ++ es)
              (sym (append_assoc (afters first.0) (afters second.lines) second.untold)
              ∙ ap (λ es. es ++ second.untold) (sym (flat_map-append afters_of first.0 second.lines)));
        }

  -- ---- one line

  module _ (job : List ℕ) (number : ℕ) (after : SourceState) (answer : Result Judgement Error)
      (right : IsRightAnswer (group_at groups number).fleet (start job) after answer) (plain : is_html telling.format ≡ false) where
    abbrev group : Groups
    group = group_at groups number

    -- nothing more is read of the job
    near_none : IsReread (in_document telling (near_of_job telling job answer)) (start job) None
    near_none =
        subst (λ (is : Bool). IsReread (if is then near_of_job telling job answer else None) (start job) None) (sym plain) tt

    page_none : IsReread (in_document telling (page_of_job telling group job answer)) (start job) None
    page_none =
        subst (λ (is : Bool). IsReread (if is then page_of_job telling group job answer else None) (start job) None) (sym plain) tt

    abbrev line_with : Option (List ℕ) → Option Noted → CheckLine
    line_with cause noted = record {
      job = job;
      group = number;
      after = after;
      answer = answer;
      cause = cause;
      noted = noted;
      near = None;
      page = None;
    }

    -- its text is that of a line, and not of a row
    plain_text : (cause : Option (List ℕ)) (noted : Option Noted) →
        line_text groups telling (line_with cause noted)
        ≡ report_text telling (reported group job answer cause) ++ noted_text telling group job noted
    plain_text cause noted =
        ap (λ (is : Bool). if is then row_told telling group job answer cause noted None None
        else (report_text telling (reported group job answer cause) ++ noted_text telling group job noted)) plain

    abbrev told : Option (List ℕ) → List ℕ
    told cause = report_text telling (reported group job answer cause)

    abbrev printer_of_notes : Option Printer
    printer_of_notes = note_printer (verdict_told answer) group.note_printers

    abbrev write_note : ToldNote → List ℕ
    write_note = told_note telling (subject_of group job)

    module _ (old new : Work) (ended : new.ended ≡ old.ended ++ job_read job after ∷ []) where
      -- no notes are told
      pub tells_alone : (ending : Ending) → printer_of_notes ≡ None → AddsTold told old.out new.out →
          ending ≡ ending_of telling answer → TellsAll groups telling ((job, number) ∷ []) start ending old new
      tells_alone ending none adds is =
          let text = told adds.0 in (
            line_with adds.0 None ∷ [],
            record {
              in_order = refl;
              right = (
                (right, subst (λ printer. IsRightlyNoted write_note (start job) printer None) (sym none) tt, near_none, page_none),
                tt,
              );
              written =
                  subst (Adds old.out new.out)
                  (sym (ap (λ t. t ++ []) (plain_text adds.0 None) ∙ append-nil (text ++ []) ∙ append-nil text)) adds.1;
              ended = ended;
            },
            is ∙ sym (worse-passes (ending_of telling answer)),
          )

      -- the line is not there whole
      pub cuts_line : (error : Error) → CutsTold error told old.out new.out → TellsFront groups telling start ((job, number) ∷ []) old new
      cuts_line Memory same = record {
        lines = [];
        later = (job, number) ∷ [];
        untold = job_read job after ∷ [];
        of_due = ((0, omega arith, refl), tt);
        in_order = refl;
        right = tt;
        written = ([], [], refl, subst (λ o. Adds old.out o []) (sym same) (Adds-none old.out));
        ended = ended;
      }
      cuts_line Write cut =
          let text = told cut.0 in
          record {
            lines = line_with cut.0 None ∷ [];
            later = [];
            untold = [];
            of_due = tt;
            in_order = refl;
            right = (inr (right, refl, refl), tt);
            written =
                subst (AddsFront old.out new.out)
                (sym (ap (λ t. t ++ []) (plain_text cut.0 None) ∙ append-nil (text ++ []) ∙ append-nil text)) cut.1;
            ended = ended;
          }
      cuts_line Read cut = absurd cut
      cuts_line Turns cut = absurd cut
      cuts_line NoProfile cut = absurd cut
      cuts_line Items cut = absurd cut

    module _ (printer : Printer) (has : printer_of_notes ≡ Some printer) (old mid new : Work)
        (ended : mid.ended ≡ old.ended ++ job_read job after ∷ []) (adds : AddsTold told old.out mid.out) where
      -- notes are told
      pub tells_noted : (noted : Noted) (ending ending' : Ending) →
          TellsNotes group telling printer (start job) job mid new (Adds mid.out new.out) noted →
          ending ≡ ending_of telling answer → ending' ≡ ending_of_notes noted.notes
          → TellsAll groups telling ((job, number) ∷ []) start (worse ending ending') old new
      tells_noted noted ending ending' tells is is' =
          let text = told adds.0 in
          let notes = notes_text telling group job noted.notes noted.cause in (
            line_with adds.0 (Some noted) ∷ [],
            record {
              in_order = refl;
              right = (
                (
                  right,
                  subst (λ printer. IsRightlyNoted write_note (start job) printer (Some noted)) (sym has) tells.right,
                  near_none,
                  page_none,
                ),
                tt,
              );
              written =
                  subst (Adds old.out new.out)
                  (sym (ap (λ t. t ++ []) (plain_text adds.0 (Some noted)) ∙ append-nil (text ++ notes)))
                  (Adds-trans old.out mid.out new.out text notes adds.1 tells.written);
              ended = tells.ended ∙ ap (λ es. es ++ job_read job noted.after ∷ []) ended
                  ∙ append_assoc old.ended (job_read job after ∷ []) (job_read job noted.after ∷ []);
            },
            ap (λ e. worse e ending') is ∙ ap (worse (ending_of telling answer)) is',
          )

      -- what is told of them is not there whole
      pub cuts_notes : (error : Error) → CutsNotes error group telling printer (start job) job mid new →
          TellsFront groups telling start ((job, number) ∷ []) old new
      cuts_notes Memory cut =
          let text = told adds.0 in
          record {
            lines = line_with adds.0 None ∷ [];
            later = [];
            untold = job_read job cut.0 ∷ [];
            of_due = ((0, omega arith, refl), tt);
            in_order = refl;
            right = (inr (right, refl, refl), tt);
            written = (
              text ++ [],
              [],
              ap (λ t. t ++ []) (plain_text adds.0 None),
              subst (λ o. Adds old.out o (text ++ [])) (sym cut.1) (subst (Adds old.out mid.out) (sym (append-nil text)) adds.1),
            );
            ended = cut.2 ∙ ap (λ es. es ++ job_read job cut.0 ∷ []) ended
                ∙ append_assoc old.ended (job_read job after ∷ []) (job_read job cut.0 ∷ []);
          }
      cuts_notes Write cut =
          let text = told adds.0 in
          let noted : Noted = cut.0 in
          let tells = cut.1 in
          let notes = notes_text telling group job noted.notes noted.cause in
          let front = tells.written in
          record {
            lines = line_with adds.0 (Some noted) ∷ [];
            later = [];
            untold = [];
            of_due = tt;
            in_order = refl;
            right = (
              inl (
                right,
                subst (λ printer. IsRightlyNoted write_note (start job) printer (Some noted)) (sym has) tells.right,
                near_none,
                page_none,
              ),
              tt,
            );
            written = (
              text ++ front.0,
              front.1,
              ap (λ t. t ++ []) (plain_text adds.0 (Some noted)) ∙ append-nil (text ++ notes) ∙ ap (λ t. text ++ t) front.2
                  ∙ sym (append_assoc text front.0 front.1),
              Adds-trans old.out mid.out new.out text front.0 adds.1 front.3,
            );
            ended = tells.ended ∙ ap (λ es. es ++ job_read job noted.after ∷ []) ended
                ∙ append_assoc old.ended (job_read job after ∷ []) (job_read job noted.after ∷ []);
          }
      cuts_notes Read cut = absurd cut
      cuts_notes Turns cut = absurd cut
      cuts_notes NoProfile cut = absurd cut
      cuts_notes Items cut = absurd cut

  -- ---- one row

  module _ (job : List ℕ) (number : ℕ) (after : SourceState) (answer : Result Judgement Error)
      (right : IsRightAnswer (group_at groups number).fleet (start job) after answer) (html : is_html telling.format ≡ true)
      (old new : Work) (ended : List JobRead) (is_ended : ended ≡ old.ended ++ job_read job after ∷ []) where
    abbrev row_group : Groups
    row_group = group_at groups number

    abbrev row_line : Option (List ℕ) → RowRead → CheckLine
    row_line cause row = record {
      job = job;
      group = number;
      after = after;
      answer = answer;
      cause = cause;
      noted = row.noted;
      near = row.near;
      page = row.page;
    }

    abbrev text_of_row : Option (List ℕ) → RowRead → List ℕ
    text_of_row cause row = row_told telling row_group job answer cause row.noted row.near row.page

    row_text_is : (cause : Option (List ℕ)) (row : RowRead) →
        line_text groups telling (row_line cause row) ≡ text_of_row cause row
    row_text_is cause row =
        ap (λ (is : Bool). if is then text_of_row cause row
        else (report_text telling (reported row_group job answer cause) ++ noted_text telling row_group job row.noted)) html

    near_is : (read : Option Reread) → IsReread (near_of_job telling job answer) (start job) read →
        IsReread (in_document telling (near_of_job telling job answer)) (start job) read
    near_is read is =
        subst (λ (h : Bool). IsReread (if h then near_of_job telling job answer else None) (start job) read) (sym html) is

    page_is : (read : Option Reread) → IsReread (page_of_job telling row_group job answer) (start job) read →
        IsReread (in_document telling (page_of_job telling row_group job answer)) (start job) read
    page_is read is =
        subst (λ (h : Bool). IsReread (if h then page_of_job telling row_group job answer else None) (start job) read) (sym html) is

    -- further readings stand behind the first one
    ended_behind : (reads : List JobRead) → new.ended ≡ ended ++ reads → new.ended ≡ old.ended ++ (job_read job after ∷ reads)
    ended_behind reads is = is ∙ ap (λ es. es ++ reads) is_ended ∙ append_assoc old.ended (job_read job after ∷ []) reads

    abbrev afters_of_row : RowRead → List JobRead
    afters_of_row row = row_afters job row.noted row.near row.page

    tells_row : (row : RowRead) (ending : Ending) → ending ≡ worse (ending_of telling answer) (ending_of_noted row.noted) →
        TellsRow row_group telling (start job) job answer (work old.out ended) new (Adds old.out new.out) row →
        TellsAll groups telling ((job, number) ∷ []) start ending old new
    tells_row row ending is tells = (
      row_line tells.cause row ∷ [],
      record {
        in_order = refl;
        right = ((right, tells.noted, near_is row.near tells.near, page_is row.page tells.page), tt);
        written =
            subst (Adds old.out new.out)
            (sym (ap (λ t. t ++ []) (row_text_is tells.cause row) ∙ append-nil (text_of_row tells.cause row))) tells.written;
        ended = ended_behind (afters_of_row row) tells.ended
            ∙ ap (λ es. old.ended ++ (job_read job after ∷ es)) (sym (append-nil (afters_of_row row)));
      },
      is,
    )

    cuts_row : (error : Error) → CutsRow error row_group telling (start job) job answer (work old.out ended) new →
        TellsFront groups telling start ((job, number) ∷ []) old new
    cuts_row Memory cut =
        let row : RowRead = cut.0 in
        record {
          lines = [];
          later = (job, number) ∷ [];
          untold = job_read job after ∷ afters_of_row row;
          of_due = ((0, omega arith, refl), row_of_due job number row.noted row.near row.page);
          in_order = refl;
          right = tt;
          written = ([], [], refl, subst (λ o. Adds old.out o []) (sym cut.1) (Adds-none old.out));
          ended = ended_behind (afters_of_row row) cut.2;
        }
    cuts_row Write cut =
        let row : RowRead = cut.0 in
        let tells = cut.1 in
        record {
          lines = row_line tells.cause row ∷ [];
          later = [];
          untold = [];
          of_due = tt;
          in_order = refl;
          right = (inl (right, tells.noted, near_is row.near tells.near, page_is row.page tells.page), tt);
          written =
              subst (AddsFront old.out new.out)
              (sym (ap (λ t. t ++ []) (row_text_is tells.cause row) ∙ append-nil (text_of_row tells.cause row))) tells.written;
          ended = ended_behind (afters_of_row row) tells.ended
              ∙ ap (λ es. old.ended ++ (job_read job after ∷ es))
              (sym (append-nil (afters_of_row row)) ∙ sym (append-nil (afters_of_row row ++ [])));
        }
    cuts_row Read cut = absurd cut
    cuts_row Turns cut = absurd cut
    cuts_row NoProfile cut = absurd cut
    cuts_row Items cut = absurd cut

    -- of a call that writes it
    pub row_told_all : (r : Result Ending Error) →
        IfOk r (AddsRow row_group telling (start job) job answer (work old.out ended) new) →
        IfOk r (λ ending. TellsAll groups telling ((job, number) ∷ []) start ending old new)
    row_told_all (Ok ending) adds = tells_row adds.0 ending adds.1 adds.2
    row_told_all (Err error) adds = tt

    pub row_cut_all : (r : Result Ending Error) →
        IfErr r (λ error. CutsRow error row_group telling (start job) job answer (work old.out ended) new) →
        IfErr r (λ error. TellsFront groups telling start ((job, number) ∷ []) old new)
    row_cut_all (Ok ending) cut = tt
    row_cut_all (Err error) cut = cuts_row error cut

  -- ---- the lines of a job, and those of all

  -- the group of this number is the next one
  pub next_group : (job : List ℕ) (number : ℕ) →
      map (keyed job) (range_with_len 0 (number + 1)) ≡ map (keyed job) (range_with_len 0 number) ++ (job, number) ∷ []
  next_group job number = map-range_with_len_more (keyed job) 0 number number (omega arith)

  -- and there are others behind it
  pub groups_behind : (job : List ℕ) (first number count : ℕ) → first + number ≡ count →
      map (keyed job) (range_with_len 0 count) ≡ map (keyed job) (range_with_len 0 first) ++ map (keyed job) (range_with_len first number)
  groups_behind job first zero count is =
      ap (λ k. map (keyed job) (range_with_len 0 k)) (let same : count ≡ first = omega (arith, is) in same) ∙ sym (append-nil _)
  groups_behind job first (suc number) count is =
      groups_behind job (first + 1) number count (omega (arith, is))
      ∙ ap (λ ks. ks ++ map (keyed job) (range_with_len (first + 1) number)) (next_group job first)
      ∙ append_assoc (map (keyed job) (range_with_len 0 first)) ((job, first) ∷ []) (map (keyed job) (range_with_len (first + 1) number))

  pub next_job : {X : Type 0} (name : X → List ℕ) (names : List X) (i : ℕ) (d : X) → i < length names →
      flat_map (due_of groups) (map name (take (i + 1) names))
      ≡ flat_map (due_of groups) (map name (take i names)) ++ due_of groups (name (get_or names i d))
  next_job name names i d h =
      ap (flat_map (due_of groups)) (map_more name names i d h)
      ∙ flat_map-append (due_of groups) (map name (take i names)) (name (get_or names i d) ∷ [])
      ∙ ap (λ ks. flat_map (due_of groups) (map name (take i names)) ++ ks) (append-nil (due_of groups (name (get_or names i d))))

  pub jobs_behind : {X : Type 0} (name : X → List ℕ) (names : List X) (i : ℕ) (d : X) → i < length names →
      flat_map (due_of groups) (map name names)
      ≡ flat_map (due_of groups) (map name (take i names))
      ++ (due_of groups (name (get_or names i d)) ++ flat_map (due_of groups) (map name (drop (suc i) names)))
  jobs_behind name names i d h =
      ap (λ l. flat_map (due_of groups) (map name l)) (split_at names i d h)
      ∙ ap (flat_map (due_of groups)) (map-append name (take i names) (get_or names i d ∷ drop (suc i) names))
      ∙ flat_map-append (due_of groups) (map name (take i names)) (name (get_or names i d) ∷ map name (drop (suc i) names))

-- ---- what a check answers

-- why a job has no verdict, where there are printers
pub error_of_job : {T : Type 0} (fleet : List Printer) (r : Result T Error) → IfErr r (λ error. error ≢ Write) →
    (IsErrOf r NoProfile → fleet ≡ []) → fleet ≢ [] → IfErr r IsErrorOfJob
error_of_job fleet (Ok x) never none some = tt
error_of_job fleet (Err Memory) never none some = tt
error_of_job fleet (Err Read) never none some = tt
error_of_job fleet (Err Turns) never none some = tt
error_of_job fleet (Err Write) never none some = absurd (never refl)
error_of_job fleet (Err NoProfile) never none some = absurd (some (none refl))
error_of_job fleet (Err Items) never none some = tt

-- it is right for the fleet, where it has a verdict
pub right_verdict : (fleet : List Printer) (start after : SourceState) (r : Result Judgement Error)
    → IfOk r (λ answer. ByReads start after (λ job. IsExact fleet job answer.verdict))
    → IfOk r (λ answer. ByReads start after (λ job. VerdictHolds fleet job answer.verdict))
    → IfOk r (λ answer. NeedsEachRead fleet start after)
    → IfOk r (λ answer. IsRightVerdict start after fleet answer.verdict)
right_verdict fleet start after (Ok answer) exact promise needed = record { exact = exact; promise = promise; needed = needed }
right_verdict fleet start after (Err error) exact promise needed = tt

-- a group has printers where there are some
pub of_group-some : {X : Type 0} (is_each : Bool) (all : List X) (number : ℕ) → all ≢ [] → number < (if is_each then length all else 1) →
    of_group is_each all number ≢ []
of_group-some true all number some inside =
    λ none. absurd (omega (arith, inside, ap length none, length-take 1 (drop number all), length-drop number all))
of_group-some false all number some inside = some

-- ---- a loop over the jobs, and over the groups of one

module _ (groups : Groups) (telling : HowTold) (start : List ℕ → SourceState) where
  pub jobs_more : {X : Type 0} (name : X → List ℕ) (names : List X) (i : ℕ) (d : X) (old mid new : Work) (ending ending' : Ending) →
      i < length names → (start' : List ℕ → SourceState) → start' ≡ start
      → TellsAll groups telling (flat_map (due_of groups) (map name (take i names))) start ending old mid
      → TellsAll groups telling (due_of groups (name (get_or names i d))) start' ending' mid new
      → TellsAll groups telling (flat_map (due_of groups) (map name (take (i + 1) names))) start (worse ending ending') old new
  jobs_more name names i d old mid new ending ending' h start' same before more =
      subst (λ due. TellsAll groups telling due start (worse ending ending') old new) (sym (next_job groups telling start name names i d h))
      (tells_more groups telling start (flat_map (due_of groups) (map name (take i names)))
      (due_of groups (name (get_or names i d))) old mid new ending ending' before
      (subst (λ s. TellsAll groups telling (due_of groups (name (get_or names i d))) s ending' mid new) same more))

  pub jobs_cut : {X : Type 0} (name : X → List ℕ) (names : List X) (i : ℕ) (d : X) (old mid new : Work) (ending : Ending) →
      i < length names → (start' : List ℕ → SourceState) → start' ≡ start
      → TellsAll groups telling (flat_map (due_of groups) (map name (take i names))) start ending old mid
      → TellsFront groups telling start' (due_of groups (name (get_or names i d))) mid new
      → TellsFront groups telling start (flat_map (due_of groups) (map name names)) old new
  jobs_cut name names i d old mid new ending h start' same before cut =
      subst (λ due. TellsFront groups telling start due old new) (sym (jobs_behind groups telling start name names i d h))
      (front_behind groups telling start (flat_map (due_of groups) (map name (take i names)))
      (due_of groups (name (get_or names i d))) old mid new (flat_map (due_of groups) (map name (drop (suc i) names))) ending before
      (subst (λ s. TellsFront groups telling s (due_of groups (name (get_or names i d))) mid new) same cut))

  module _ (job : List ℕ) (number : ℕ) (old mid new : Work) (ending : Ending)
      (before : TellsAll groups telling (map (keyed job) (range_with_len 0 number)) start ending old mid)
      (start' : List ℕ → SourceState) (same : start' ≡ start) where
    pub groups_more : (ending' : Ending) → TellsAll groups telling (keyed job number ∷ []) start' ending' mid new →
        TellsAll groups telling (map (keyed job) (range_with_len 0 (number + 1))) start (worse ending ending') old new
    groups_more ending' more =
        subst (λ due. TellsAll groups telling due start (worse ending ending') old new) (sym (next_group groups telling start job number))
        (tells_more groups telling start (map (keyed job) (range_with_len 0 number)) ((job, number) ∷ []) old mid new ending ending' before
        (subst (λ s. TellsAll groups telling (keyed job number ∷ []) s ending' mid new) same more))

    pub groups_cut : number < group_count groups → TellsFront groups telling start' (keyed job number ∷ []) mid new →
        TellsFront groups telling start (due_of groups job) old new
    groups_cut inside cut =
        let rest : number + 1 + (group_count groups - (number + 1)) ≡ group_count groups = omega (arith, inside) in
        let later : List (List ℕ × ℕ) = map (keyed job) (range_with_len (number + 1) (group_count groups - (number + 1))) in
        subst (λ due. TellsFront groups telling start due old new)
        (sym (append_assoc (map (keyed job) (range_with_len 0 number)) ((job, number) ∷ []) later)
        ∙ ap (λ ks. ks ++ later) (sym (next_group groups telling start job number))
        ∙ sym (groups_behind groups telling start job (number + 1) (group_count groups - (number + 1)) (group_count groups) rest))
        (front_behind groups telling start (map (keyed job) (range_with_len 0 number)) ((job, number) ∷ []) old mid new later ending before
        (subst (λ s. TellsFront groups telling s (keyed job number ∷ []) mid new) same cut))

-- a row that was cut is so for an error of a line
module _ (group : Groups) (telling : HowTold) (start : SourceState) (job : List ℕ) (answer : Result Judgement Error) (old new : Work) where
  error_of_row : (error : Error) → CutsRow error group telling start job answer old new → IsErrorOfLine error
  error_of_row Memory cut = tt
  error_of_row Write cut = tt
  error_of_row Read cut = cut
  error_of_row Turns cut = cut
  error_of_row NoProfile cut = cut
  error_of_row Items cut = cut

  pub row_errors : (r : Result Ending Error) → IfErr r (λ error. CutsRow error group telling start job answer old new) →
      IfErr r IsErrorOfLine
  row_errors (Ok ending) cut = tt
  row_errors (Err error) cut = error_of_row error cut

-- where it is an error, this holds
pub where_err : (r : Result Ending Error) (P : Type 0) → P → IfErr r (λ error. P)
where_err (Ok ending) P p = tt
where_err (Err error) P p = p

-- ---- the printers of texts

-- texts describe one fleet
same_fleet : (texts : List (List ℕ)) (fleet other : List Printer) → DescribeFleet (map (λ text. Some text) texts) fleet →
    DescribeFleet (map (λ text. Some text) texts) other → fleet ≡ other
same_fleet [] [] [] first second = refl
same_fleet [] [] (q ∷ other) first second = absurd second
same_fleet [] (p ∷ fleet) other first second = absurd first
same_fleet (text ∷ texts) [] other first second = absurd first
same_fleet (text ∷ texts) (p ∷ fleet) [] first second = absurd second
same_fleet (text ∷ texts) (p ∷ fleet) (q ∷ other) first second =
    let is : printer_of_text text ≡ Ok p = first.0 in
    let is' : printer_of_text text ≡ Ok q = second.0 in
    let same : fleet ≡ other = same_fleet texts fleet other first.1 second.1 in
    cc

-- the printers that notes are told for are those of the fleet
same_printers : (tells_notes : Bool) (given : List (List ℕ)) (fleet printers : List Printer) → DescribeBy [] given fleet →
    AreNotePrinters tells_notes given printers → printers ≡ (if tells_notes then map with_most_items fleet else [])
same_printers true given fleet printers by are =
    let texts : are.1.0 ≡ by.0 = sym are.1.1 ∙ by.1 in
    are.2
    ∙ ap (map with_most_items)
    (same_fleet by.0 are.0 fleet (subst (λ ts. DescribeFleet (map (λ text. Some text) ts) are.0) texts are.1.2) by.2)
same_printers false given fleet printers by are = are

pub of_texts : (known : List (Option (List ℕ))) (most : Option ℕ) (tells_notes : Bool) (groups : Groups) (fleet printers : List Printer)
    (names given before after : List (List ℕ)) → groups.fleet ≡ map (limited most) fleet → groups.note_printers ≡ printers
    → groups.names ≡ names → DescribeFleet known fleet → DescribeBy before after fleet → DescribeBy [] given fleet
    → AreNotePrinters tells_notes given printers → names ≡ map printer_name given → AreOfTexts known before after most tells_notes groups
of_texts known most tells_notes groups fleet printers names given before after fleet_is printers_are names_are described read by are
    named = record {
      fleet = fleet;
      described = described;
      are_given = read;
      texts = given;
      read = subst (λ texts. DescribeFleet (map (λ text. Some text) texts) fleet) (sym by.1) by.2;
      fleet_is = fleet_is;
      note_printers = printers_are ∙ same_printers tells_notes given fleet printers by are;
      names_are = names_are ∙ named;
    }

-- one more text gives one more of these printers
pub note_printers_more : {X : Type 0} (bytes : X → List ℕ) (texts : List X) (i : ℕ) (d : X) (printers : List Printer) (printer : Printer) →
    i < length texts → AreNotePrinters true (map bytes (take i texts)) printers → printer_of_text (bytes (get_or texts i d)) ≡ Ok printer
    → AreNotePrinters true (map bytes (take (i + 1) texts)) (printers ++ with_most_items printer ∷ [])
note_printers_more bytes texts i d printers printer h before is = (
  before.0 ++ printer ∷ [],
  DescribeBy-more [] (map bytes (take i texts)) (map bytes (take (i + 1) texts)) before.0 (printer ∷ []) before.1
      (bytes (get_or texts i d) ∷ [], map_more bytes texts i d h, (is, tt)),
  ap (λ (ps : List Printer). ps ++ with_most_items printer ∷ []) before.2 ∙ sym (map-append with_most_items before.0 (printer ∷ [])),
)

-- an error for which there is no fleet is one of reading a text
pub end_error : (known : List (Option (List ℕ))) (error : Error) → IsEndOfFleet known (Stopped error) → IsErrorOfReading error
end_error known Memory end = tt
end_error known Read end = tt
end_error known Write end = absurd end
end_error known Turns end = absurd end
end_error known NoProfile end = absurd end
end_error known Items end = absurd end

pub error_of_end : (known : List (Option (List ℕ))) (status : Status) (error : Error) → status ≡ Stopped error → IsEndOfFleet known status →
    IsErrorOfReading error
error_of_end known status error is end = end_error known error (subst (IsEndOfFleet known) is end)
