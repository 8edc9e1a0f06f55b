-- What the reads of a job came to for a session to which nothing was fed.
use Rattle.std.proofs.Common.{◌≡◌, ◌≢◌, ℕ, List, [], ◌∷◌, ◌++◌, ◌∙◌, ap, refl, subst, sym, Option, Result, Ok, Err, IfOk, IfErr, IfSome}
use Rattle.std.specs.Prelude.{IsErrOf, ⊤}
use Rattle.std.proofs.lemmas.Result.{IfOk-weaker}
use Rattle.device_profile.specs.Printer.{Printer}
use Rattle.streams.specs.declared.error.Error.{Error}
use Rattle.streams.specs.declared.error.Error.TheVariants.{Memory, Read, Write, Items}
use Rattle.streams.specs.Pieces.{ByReads, Spell}
use Rattle.streams.specs.Source.{SourceState}
use Rattle.preflight.specs.Session.{SessionState, ChecksOn, HasChecked, IsJudged, IsOutOfMemory, page_told}
use Rattle.judgement.specs.Verdict.{IsExact, VerdictHolds, NeedsEachRead, StaysOpen, WasOpen}
use Rattle.judgement.specs.FailingItem.{IsTold}
use Rattle.preflight.specs.Stood.{IsCursorOf, IsFontOf, IsOfSession, IsSpotOf, LacksFont}
use Rattle.preflight.specs.Where.{IsOnPage}
use Rattle.judgement.specs.declared.failing_item.MissingFont.{MissingFont}
use Rattle.judgement.specs.declared.failing_item.SheetSpot.{SheetSpot}
use Rattle.streams.specs.Driving.{IsAnswered, IsStopped, StopsBy}
use Rattle.streams.proofs.Pieces.{known_by}
use Rattle.streams.proofs.Driving.{never_items as none_of_limits, of_error, of_read, stop_gives}
use Rattle.preflight.proofs.Sessions.{opened}
use Rattle.preflight.proofs.Spots.{cursor_right, font_right, judged_told}
use Rattle.preflight.proofs.StillOpen.{leaves_open}
use Rattle.verdict.specs.declared.verdict.Verdict.{Verdict}

-- a fact by the reads is one of a job that was known
pub known_ok : (old new : SourceState) (P : List ℕ → Verdict → Type 0) (r : Result Verdict Error) →
    IfOk r (λ verdict. ByReads old new (λ job. P job verdict)) → IfOk r (λ verdict. IfSome old.remaining (λ job. P job verdict))
known_ok old new P (Ok verdict) h = known_by old new (λ job. P job verdict) h
known_ok old new P (Err e) h = tt

-- a session takes its pieces beside an outlet of nothing
abbrev Beside : Type 0
Beside = SessionState × Unit {0}

abbrev Goes : Beside → List ℕ → Beside → Type 0
Goes first bytes now = ChecksOn first.0 bytes now.0

abbrev Judges : Beside → Verdict → List (List ℕ) → Beside → Type 0
Judges first verdict pieces now = IsJudged first.0 verdict pieces now.0

abbrev Stops : Beside → Error → List ℕ → Beside → Type 0
Stops first error bytes now = IsOutOfMemory first.0 error bytes now.0

module _ (fleet : List Printer) (session now : Beside) (fresh : HasChecked fleet [] session.0) (old new : SourceState)
    (r : Result Verdict Error) (h : IfOk r (λ verdict. IsAnswered Goes Judges session now verdict old new)) where
  abbrev Answer : Verdict → Type 0
  Answer verdict = IsAnswered Goes Judges session now verdict old new

  pub exact : IfOk r (λ verdict. ByReads old new (λ job. IsExact fleet job verdict))
  exact = IfOk-weaker r Answer (λ verdict. ByReads old new (λ job. IsExact fleet job verdict)) by h
    where
      by : (verdict : Verdict) → Answer verdict → ByReads old new (λ job. IsExact fleet job verdict)
      by verdict is = record {
        pieces = is.pieces_before ++ is.last ∷ [];
        given = is.given_is;
        each = λ job may. (is.answered.right fleet [] fresh job may).0;
        known = is.known;
      }

  pub headline : IfOk r (λ verdict. ByReads old new (λ job. VerdictHolds fleet job verdict))
  headline = IfOk-weaker r Answer (λ verdict. ByReads old new (λ job. VerdictHolds fleet job verdict)) by h
    where
      by : (verdict : Verdict) → Answer verdict → ByReads old new (λ job. VerdictHolds fleet job verdict)
      by verdict is = record {
        pieces = is.pieces_before ++ is.last ∷ [];
        given = is.given_is;
        each = λ job may. (is.answered.right fleet [] fresh job may).1;
        known = is.known;
      }

  pub told : IfOk r (λ verdict. ByReads old new (λ job. IsTold job verdict now.0.failing_item))
  told = IfOk-weaker r Answer (λ verdict. ByReads old new (λ job. IsTold job verdict now.0.failing_item)) by h
    where
      by : (verdict : Verdict) → Answer verdict → ByReads old new (λ job. IsTold job verdict now.0.failing_item)
      by verdict is = record {
        pieces = is.pieces_before ++ is.last ∷ [];
        given = is.given_is;
        each = λ job may. (is.answered.right fleet [] fresh job may).2;
        known = is.known;
      }

  pub paged : IfOk r
      (λ verdict. ByReads old new (λ job. IsOnPage fleet job verdict (page_told now.0.state now.0.counts)))
  paged =
      IfOk-weaker r Answer
      (λ verdict. ByReads old new (λ job. IsOnPage fleet job verdict (page_told now.0.state now.0.counts))) by h
    where
      by : (verdict : Verdict) → Answer verdict →
          ByReads old new (λ job. IsOnPage fleet job verdict (page_told now.0.state now.0.counts))
      by verdict is = record {
        pieces = is.pieces_before ++ is.last ∷ [];
        given = is.given_is;
        each =
            λ job may. subst (λ s. IsOnPage fleet job verdict (page_told s now.0.counts)) (sym is.answered.state_is)
            (is.answered.right fleet [] fresh job may).3;
        known = is.known;
      }

  pub placed : (told : Option SheetSpot) → IsOfSession IsSpotOf now.0.state now.0.failing_item now.0.machines told →
      IfOk r (λ verdict. ByReads old new (λ job. IsCursorOf fleet job verdict told))
  placed told is_told = IfOk-weaker r Answer (λ verdict. ByReads old new (λ job. IsCursorOf fleet job verdict told)) by h
    where
      by : (verdict : Verdict) → Answer verdict → ByReads old new (λ job. IsCursorOf fleet job verdict told)
      by verdict is = record {
        pieces = is.pieces_before ++ is.last ∷ [];
        given = is.given_is;
        each =
            λ job may. cursor_right fleet job verdict now.0.failing_item now.0.machines told
            (judged_told IsSpotOf now.0.failing_item now.0.machines told now.0.state verdict is.answered.state_is is_told)
            (is.answered.right fleet [] fresh job may).4;
        known = is.known;
      }

  pub asked : (told : Option MissingFont) → IsOfSession LacksFont now.0.state now.0.failing_item now.0.machines told →
      IfOk r (λ verdict. ByReads old new (λ job. IsFontOf fleet job verdict told))
  asked told is_told = IfOk-weaker r Answer (λ verdict. ByReads old new (λ job. IsFontOf fleet job verdict told)) by h
    where
      by : (verdict : Verdict) → Answer verdict → ByReads old new (λ job. IsFontOf fleet job verdict told)
      by verdict is = record {
        pieces = is.pieces_before ++ is.last ∷ [];
        given = is.given_is;
        each =
            λ job may. font_right fleet job verdict now.0.failing_item now.0.machines told
            (judged_told LacksFont now.0.failing_item now.0.machines told now.0.state verdict is.answered.state_is is_told)
            (is.answered.right fleet [] fresh job may).4;
        known = is.known;
      }

  pub needed : IfOk r (λ _. NeedsEachRead fleet old new)
  needed = IfOk-weaker r Answer (λ _. NeedsEachRead fleet old new) by h
    where
      by : (verdict : Verdict) → Answer verdict → NeedsEachRead fleet old new
      by verdict is =
          let goes = is.left_open in
          let executed = opened is.between.0 fleet is.bytes goes.is_open (goes.checked fleet [] fresh) in
          record {
            pieces_before = is.pieces_before;
            last = is.last;
            given = is.given_is;
            short = is.short;
            left_open =
                leaves_open fleet is.bytes is.between.0.lexer is.between.0.machines is.between.0.counts executed.0 goes.open_input
                is.pieces_before
                is.spelled goes.wants_more;
          }

-- ---- where it stopped

-- a read that failed was needed
module _ (fleet : List Printer) (session now : Beside) (fresh : HasChecked fleet [] session.0) (old new : SourceState) where
  still_open_by : (error : Error) → IsStopped Goes Stops session now error old new → error ≡ Read → StaysOpen fleet old new
  still_open_by error h is =
      let goes : ChecksOn session.0 h.bytes now.0 =
      subst (StopsBy (Goes session h.bytes now) (λ e. Stops session e h.bytes now)) is h.came in
      let spelled : Spell h.pieces h.bytes = subst (StopsBy (Spell h.pieces h.bytes) (λ e. ⊤)) is h.spelled in
      let executed = opened now.0 fleet h.bytes goes.is_open (goes.checked fleet [] fresh) in (
        h.pieces,
        h.given_is,
        leaves_open fleet h.bytes now.0.lexer now.0.machines now.0.counts executed.0 goes.open_input h.pieces spelled goes.wants_more,
      )

  pub still_open : (r : Result Verdict Error) → IfErr r (λ error. IsStopped Goes Stops session now error old new) → IsErrOf r Read →
      StaysOpen fleet old new
  still_open r h failed = of_read r (λ error. error ≡ Read → StaysOpen fleet old new) (stop_gives r h still_open_by) failed refl

  -- and the verdict was open before the last read, or behind it
  was_open_by : (error : Error) → IsStopped Goes Stops session now error old new → WasOpen fleet old new
  was_open_by error h =
      let was = h.was_open in
      let goes : ChecksOn session.0 was.bytes was.between.0 = was.left_open in
      let executed = opened was.between.0 fleet was.bytes goes.is_open (goes.checked fleet [] fresh) in (
        was.pieces_before,
        was.last,
        h.given_is ∙ ap (λ (pieces : List (List ℕ)). old.given ++ pieces) was.split,
        was.at_most_one,
        leaves_open fleet was.bytes was.between.0.lexer was.between.0.machines was.between.0.counts executed.0 goes.open_input
            was.pieces_before
            was.spelled goes.wants_more,
      )

  pub was_open : (r : Result Verdict Error) (e : Error) → IfErr r (λ error. IsStopped Goes Stops session now error old new) → IsErrOf r e →
      WasOpen fleet old new
  was_open r e h failed = of_error r e (λ error. WasOpen fleet old new) (stop_gives r h was_open_by) failed

module _ (session now : Beside) (old new : SourceState) where
  abbrev Stop : Error → Type 0
  Stop error = IsStopped Goes Stops session now error old new

  not_write : (error : Error) → Stop error → error ≢ Write
  not_write error h is =
      let came = subst (StopsBy (Goes session h.bytes now) (λ e. Stops session e h.bytes now)) is h.came in
      let refused : Write ≡ Memory = came.0 in
      absurd cc

  pub never_write : (r : Result Verdict Error) → IfErr r Stop → IfErr r (λ error. error ≢ Write)
  never_write (Ok verdict) h = tt
  never_write (Err error) h = not_write error h

  not_items : (error : Error) → Stop error → error ≢ Items
  not_items error h is = none_of_limits (Goes session h.bytes now) (λ e. Stops session e h.bytes now) error h.came is

  pub never_items : (r : Result Verdict Error) → IfErr r Stop → IfErr r (λ error. error ≢ Items)
  never_items (Ok verdict) h = tt
  never_items (Err error) h = not_items error h
