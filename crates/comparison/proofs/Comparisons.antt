-- The comparison of two jobs, by what came of each.
use Rattle.std.proofs.Common.{◌≡◌, ℕ, Bool, true, false, List, [], ◌∷◌, ◌++◌, refl, ap, sym, ◌∙◌, subst, append-nil}
use Rattle.std.proofs.lemmas.Bool.{false≢true}
use Rattle.pcl_lexer.specs.Laws.{HasOneReading}
use Rattle.pcl_lexer.specs.Lexing.Meaning.{MayBe}
use Rattle.pcl_lexer.specs.Reading.{Reading, reading_of}
use Rattle.pcl_lexer.proofs.Reading.Readings.{one_reading}
use Rattle.device_profile.specs.declared.panel.Panel.{Panel}
use Rattle.device_profile.specs.Printer.{Printer}
use Rattle.page_machine.specs.Job.{ItemRun, plain_run}
use Rattle.streams.proofs.Pieces.{at_job, by_front}
use Rattle.streams.specs.Pieces.{ByReads, MayBeBy}
use Rattle.streams.specs.Source.{SourceState}
use Rattle.verdict.specs.declared.failure.Failure.{Failure}
use Rattle.comparison.specs.declared.difference.Comparison.{Comparison}
use Rattle.comparison.specs.declared.difference.Comparison.TheVariants.{OldFails, NewFails}
use Rattle.comparison.specs.Comparison.{Made, all_made, at_start, compared, end_of, failing_or, failure_on}
use Rattle.comparison.specs.Comparison.{IsComparison}
use Rattle.comparison.specs.Running.{Gave, HasEnded, IsFailing}

-- ---- what the reads gave

-- what holds of each job that the bytes may be
pub by_reads : (first now : SourceState) (ended : Bool) (bytes : List ℕ) (P : List ℕ → Type 0) → Gave first now ended bytes →
    ((job : List ℕ) → MayBe ended bytes job → P job) → ByReads first now P
by_reads first now false bytes P gave holds =
    by_front first now gave.pieces bytes P (gave.given_is ∙ ap (λ ps. first.given ++ ps) (append-nil gave.pieces)) gave.spelled
    gave.consumed
    (λ more. holds (bytes ++ more) (more, refl, λ e. absurd (false≢true e)))
by_reads first now true bytes P gave holds = record {
  pieces = gave.pieces ++ [] ∷ [];
  given = gave.given_is;
  each = λ job h. let split = gave.spelled.leads ([] ∷ []) job h in holds job (split.0, split.1, λ e. split.2);
  known =
      at_job (gave.pieces ++ [] ∷ []) first.remaining bytes
      (subst (MayBeBy (gave.pieces ++ [] ∷ [])) (append-nil bytes) (gave.spelled.led ([] ∷ []) [] refl)) (gave.whole refl);
}

-- ---- the comparison

module _ (number : ℕ) (printer : Printer) (panel : Panel) where
  abbrev items_from : Reading → List ItemRun
  items_from reading = (plain_run printer panel reading).items

  abbrev events_compared : Reading → Reading → Comparison
  events_compared old new = compared at_start (end_of old) (end_of new) (all_made (items_from old)) (all_made (items_from new))

  abbrev new_judged : Reading → Reading → Comparison
  new_judged old new = failing_or NewFails (failure_on number (items_from new) new) (events_compared old new)

  -- OLD fails, whatever NEW is
  pub old_failing : (ended : Bool) (bytes : List ℕ) (failure : Failure) → IsFailing printer panel number ended bytes failure →
      (before after : List ℕ) → MayBe ended bytes before → IsComparison number printer panel before after (OldFails failure)
  old_failing ended bytes failure fails before after may =
      let old = fails before may in
      let one : HasOneReading after = one_reading after in (
        old.0,
        old.1,
        reading_of after,
        one.read,
        sym (ap (λ found. failing_or OldFails found (new_judged old.0 (reading_of after))) old.2),
      )

  -- OLD does not fail, and NEW does
  pub new_failing : (old_bytes : List ℕ) (made : List Made) (place : ℕ) → HasEnded printer panel number old_bytes made place →
      (ended : Bool) (bytes : List ℕ) (failure : Failure) → IsFailing printer panel number ended bytes failure →
      (after : List ℕ) → MayBe ended bytes after → IsComparison number printer panel old_bytes after (NewFails failure)
  new_failing old_bytes made place old ended bytes failure fails after may =
      let new = fails after may in (
        old.reading,
        old.spelled,
        new.0,
        new.1,
        sym
            (ap (λ found. failing_or OldFails found (new_judged old.reading new.0)) old.passing
            ∙ ap (λ found. failing_or NewFails found (events_compared old.reading new.0)) new.2),
      )

  -- neither fails
  pub both_end : (old_bytes new_bytes : List ℕ) (old_made new_made : List Made) (old_place new_place : ℕ) (found : Comparison) →
      HasEnded printer panel number old_bytes old_made old_place → HasEnded printer panel number new_bytes new_made new_place →
      compared at_start old_place new_place old_made new_made ≡ found → IsComparison number printer panel old_bytes new_bytes found
  both_end old_bytes new_bytes old_made new_made old_place new_place found old new is = (
    old.reading,
    old.spelled,
    new.reading,
    new.spelled,
    sym
        (ap (λ failure. failing_or OldFails failure (new_judged old.reading new.reading)) old.passing
        ∙ (ap (λ failure. failing_or NewFails failure (events_compared old.reading new.reading)) new.passing
        ∙ ((λ i. compared at_start (sym old.place_is i) (sym new.place_is i) (old.making i) (new.making i)) ∙ is))),
  )
