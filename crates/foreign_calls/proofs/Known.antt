-- Lemmas on what is told of a job whose bytes are known.
use Rattle.std.proofs.Common.{◌≡◌, ◌++◌, ◌∙◌, ℕ, List, [], Result, Ok, Err, None, Some, IfOk, IfErr, IfSome, ap, refl, subst, sym}
use Rattle.device_profile.specs.declared.fault.ProfileFault.{ProfileFault}
use Rattle.device_profile.specs.declared.fault.ProfileFault.TheVariants.{Fault, Memory}
use Rattle.device_profile.specs.Printer.{Printer}
use Rattle.device_profile.specs.Text.{IsErrorOfText}
use Rattle.job_reports.specs.Groups.{Groups, reported}
use Rattle.job_reports.specs.JobSentences.{job_sentence}
use Rattle.judgement.specs.declared.failing_item.Judgement.{Judgement}
use Rattle.judgement.specs.FailingItem.{IsTold}
use Rattle.preflight.specs.Judgement.{IsAnswer}
use Rattle.preflight.specs.Stood.{IsCursorOf, IsFontOf}
use Rattle.judgement.specs.Verdict.{IsExact, PassesItems, VerdictHolds}
use Rattle.preflight.specs.Where.{IsOnPage}
use Rattle.renderings.specs.declared.outcome.Outcome.{Outcome}
use Rattle.renderings.specs.Expected.{IsExpected, Rendering, Renders}
use Rattle.streams.specs.declared.error.Error.{Error}
use Rattle.streams.specs.Outlet.{OutletState}
use Rattle.streams.specs.Pieces.{ByReads, MayBeBy}
use Rattle.streams.specs.Source.{SourceState}
use Rattle.subcommands.specs.JobNotes.{outcome_line}
use Rattle.foreign_calls.specs.declared.why.Why.{Why}
use Rattle.foreign_calls.specs.declared.why.Why.TheVariants.{Stopped, Refused, NotAllowed, NoField, NoPage, Unheard, NotText}
use Rattle.foreign_calls.specs.Answers.{IsStop, IsWhyOf, Told, outcome_row, verdict_row, why_of}
use Rattle.foreign_calls.specs.Checked.{IsSentenceOf, IsTextOf, PassesLimit}
use Rattle.foreign_calls.specs.Texts.{IsWrittenWithLine}

-- what holds of every job that may be by the reads holds of the one that was known
pub known_by : (start after : SourceState) (job : List ℕ) (P : List ℕ → Type 0) → ByReads start after P → start.remaining ≡ Some job
    → P job
known_by start after job P by is = by.each job (subst (λ known. IfSome known (MayBeBy by.pieces)) is by.known)

-- ---- texts

module _ (rendering : Rendering) (start after : SourceState) (kept kept' : OutletState) (job : List ℕ) where
  -- the text that was kept is what is due of the job
  pub written_known : (outcome : Outcome) (text : List ℕ) → Renders rendering start after kept kept' (Ok outcome) →
      start.remaining ≡ Some job → kept.taken ≡ [] → text ≡ kept'.taken → IsExpected rendering job text outcome
  written_known outcome text rendered known empty is =
      let due = rendered.written in
      let text_is : due.text ≡ text = sym (is ∙ (due.adds.taken ∙ ap (λ front. front ++ due.text) empty)) in
      subst (λ (bytes : List ℕ). IsExpected rendering job bytes outcome) text_is
      (known_by start after job (λ bytes. IsExpected rendering bytes due.text outcome) due.due known)

  -- and so with the line of the failure behind it
  pub told_with_line : (outcome : Outcome) (text : List ℕ) (work : Result Told Why)
      → Renders rendering start after kept kept' (Ok outcome) →
      start.remaining ≡ Some job → kept.taken ≡ [] → text ≡ kept'.taken →
      IfOk work (λ told. (told.row ≡ outcome_row outcome) × (told.text ≡ text ++ outcome_line outcome)) →
      IfOk work (IsWrittenWithLine rendering job)
  told_with_line outcome text (Ok told) rendered known empty is told_is =
      (text, outcome, written_known outcome text rendered known empty is, told_is.1, told_is.0)
  told_with_line outcome text (Err why) rendered known empty is told_is = tt

-- ---- why there is none

pub stop_is_why : (number : ℕ) (text : List ℕ) (why : Why) → IsStop why → IsWhyOf number text why
stop_is_why number text (Stopped error) stop = tt
stop_is_why number text (Refused refused line cause) stop = absurd stop
stop_is_why number text NotAllowed stop = stop
stop_is_why number text NoField stop = stop
stop_is_why number text NoPage stop = stop
stop_is_why number text Unheard stop = stop
stop_is_why number text NotText stop = stop

pub stops_for : {T : Type 0} (number : ℕ) (text : List ℕ) (work : Result T Why) → IfErr work IsStop → IfErr work (IsWhyOf number text)
stops_for number text (Ok done) stops = tt
stops_for number text (Err why) stops = stop_is_why number text why stops

pub why_of_fault : (number : ℕ) (text : List ℕ) (fault : ProfileFault) → IsErrorOfText text fault
    → IsWhyOf number text (why_of number fault)
why_of_fault number text (Fault line cause) is = (refl, is)
why_of_fault number text Memory is = tt

-- ---- verdicts

module _ (start after : SourceState) (fleet : List Printer) (job : List ℕ) where
  -- a job that is known passes the limit of items
  pub passes_known : PassesItems fleet start after → start.remaining ≡ Some job → PassesLimit fleet job
  passes_known passes known = (
    passes.verdict,
    passes.many,
    known_by start after job (λ bytes. IsExact fleet bytes passes.verdict) passes.exact known,
    known_by start after job (λ bytes. VerdictHolds fleet bytes passes.verdict) passes.promise known,
  )

  pub judged_known : (r : Result Judgement Error) → start.remaining ≡ Some job
      → IfOk r (λ answer. ByReads start after (λ bytes. IsExact fleet bytes answer.verdict))
      → IfOk r (λ answer. ByReads start after (λ bytes. VerdictHolds fleet bytes answer.verdict))
      → IfOk r (λ answer. ByReads start after (λ bytes. IsTold bytes answer.verdict answer.failing_item))
      → IfOk r (λ answer. ByReads start after (λ bytes. IsOnPage fleet bytes answer.verdict answer.page))
      → IfOk r (λ answer. ByReads start after (λ bytes. IsCursorOf fleet bytes answer.verdict answer.cursor))
      → IfOk r (λ answer. ByReads start after (λ bytes. IsFontOf fleet bytes answer.verdict answer.font))
      → IfOk r (IsAnswer fleet job)
  judged_known (Ok answer) known exact promise told paged placed asks = record {
    exact = known_by start after job (λ bytes. IsExact fleet bytes answer.verdict) exact known;
    promise = known_by start after job (λ bytes. VerdictHolds fleet bytes answer.verdict) promise known;
    told = known_by start after job (λ bytes. IsTold bytes answer.verdict answer.failing_item) told known;
    paged = known_by start after job (λ bytes. IsOnPage fleet bytes answer.verdict answer.page) paged known;
    placed = known_by start after job (λ bytes. IsCursorOf fleet bytes answer.verdict answer.cursor) placed known;
    asks = known_by start after job (λ bytes. IsFontOf fleet bytes answer.verdict answer.font) asks known;
  }
  judged_known (Err error) known exact promise told paged placed asks = tt

-- ---- sentences

-- the row and the text by an answer
pub text_by : (group : Groups) (name : List ℕ) (answer : Judgement) (work : Result Told Why)
    → IfOk work (λ told. told.row ≡ verdict_row answer.verdict answer.page)
    → IfOk work (λ told. told.text ≡ job_sentence (reported group name (Ok answer) None)) → IfOk work (IsTextOf group name (Ok answer))
text_by group name answer (Ok told) row text = (row, text)
text_by group name answer (Err why) row text = tt

-- the sentence by a right answer on a job is one on that job
pub sentence_by : (group : Groups) (name job : List ℕ) (answer : Judgement) (work : Result Told Why) → IsAnswer group.fleet job answer
    → IfOk work (λ told. told.row ≡ verdict_row answer.verdict answer.page)
    → IfOk work (λ told. told.text ≡ job_sentence (reported group name (Ok answer) None)) → IfOk work (IsSentenceOf group name job)
sentence_by group name job answer (Ok told) right row text = (answer, right, row, text)
sentence_by group name job answer (Err why) right row text = tt
