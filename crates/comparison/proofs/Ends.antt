-- The ends of two jobs that were compared: where one of them fails, and where neither does.
use Rattle.std.proofs.Common.{◌≡◌, ℕ, true, false, List, ◌++◌, None, Some, Result, Ok, Err, IfErr, OnOk, refl, ap, sym, ◌∙◌, subst}
use Rattle.std.proofs.Common.{append-nil}
use Rattle.std.proofs.lemmas.Bool.{false≢true}
use Rattle.pcl_lexer.specs.Lexing.Meaning.{MayBe}
use Rattle.device_profile.specs.declared.panel.Panel.{Panel}
use Rattle.device_profile.specs.Printer.{Printer}
use Rattle.streams.specs.declared.error.Error.{Error}
use Rattle.streams.specs.Errors.{is_read}
use Rattle.streams.specs.Pieces.{ByReads}
use Rattle.streams.specs.Source.{SourceState}
use Rattle.verdict.specs.declared.failure.Failure.{Failure}
use Rattle.comparison.specs.declared.compare.Unread.{Unread}
use Rattle.comparison.specs.declared.compare.Which.{Which}
use Rattle.comparison.specs.declared.compare.Which.TheVariants.{Old, New}
use Rattle.comparison.specs.declared.difference.Comparison.{Comparison}
use Rattle.comparison.specs.declared.difference.Comparison.TheVariants.{OldFails, NewFails}
use Rattle.comparison.specs.declared.running_job.Progress.{Progress}
use Rattle.comparison.specs.declared.running_job.Progress.TheVariants.{Open, Ended, Fails, OutOfMemory}
use Rattle.comparison.specs.Comparison.{Made, IsComparison}
use Rattle.comparison.specs.Comparing.{EndsRight, NewEndsRight, is_unread, is_unread_by}
use Rattle.comparison.specs.Running.{HasEnded, HasRun, IsErrorOfJob, IsFailing, RunState, RunsOut, StandsBy, failure_of, is_open}
use Rattle.comparison.proofs.Comparisons.{both_end, by_reads, new_failing, old_failing}

-- ---- what a job that is over has come to

pub fails_by : (progress : Progress) (printer : Printer) (panel : Panel) (bytes : List ℕ) (made : List Made) (run : RunState)
    (failure : Failure) → failure_of progress ≡ Some failure → StandsBy progress printer panel bytes made run →
    IsFailing printer panel run.number run.lexer.ended bytes failure
fails_by Open printer panel bytes made run failure e h = absurd cc
fails_by Ended printer panel bytes made run failure e h = absurd cc
fails_by (Fails other) printer panel bytes made run failure e h =
    let same : other ≡ failure = cc in subst (IsFailing printer panel run.number run.lexer.ended bytes) same h
fails_by OutOfMemory printer panel bytes made run failure e h = absurd h

pub ends_by : (progress : Progress) (printer : Printer) (panel : Panel) (bytes : List ℕ) (made : List Made) (run : RunState) →
    is_open progress ≡ false → failure_of progress ≡ None → StandsBy progress printer panel bytes made run →
    (run.lexer.ended ≡ true) × HasEnded printer panel run.number bytes made run.place
ends_by Open printer panel bytes made run over none h = absurd (false≢true (sym over))
ends_by Ended printer panel bytes made run over none h = h
ends_by (Fails failure) printer panel bytes made run over none h = absurd cc
ends_by OutOfMemory printer panel bytes made run over none h = absurd h

-- the bytes are the job, where its end was told
pub whole_job : (bytes job : List ℕ) → MayBe true bytes job → bytes ≡ job
whole_job bytes job may = sym (may.1 ∙ (ap (λ l. bytes ++ l) (may.2 refl) ∙ append-nil bytes))

-- ---- OLD

module _ (old_now old_now' new_now : SourceState) (old old' new : RunState) (found : Comparison)
    (ran : RunsOut old_now old_now' old old') (number_is : old'.number ≡ old.number) where
  -- it fails, and what NEW is does not matter
  pub old_fails : (failure : Failure) → Some failure ≡ failure_of old'.progress →
      EndsRight old_now old_now' new_now new_now old new found (OldFails failure)
  old_fails failure fails printer panel number old_first new_first compared old_number new_number =
      let run_out = ran printer panel old_first compared.old_made compared.old_run in
      let h : HasRun printer panel old_first old_now' (compared.old_made ++ run_out.0) old' = run_out.1 in
      let failing : IsFailing printer panel number old'.lexer.ended h.bytes failure =
      subst (λ n. IsFailing printer panel n old'.lexer.ended h.bytes failure) (number_is ∙ old_number)
      (fails_by old'.progress printer panel h.bytes (compared.old_made ++ run_out.0) old' failure (sym fails) h.stands) in
      by_reads old_first old_now' old'.lexer.ended h.bytes
      (λ before. ByReads new_first new_now (λ after. IsComparison number printer panel before after (OldFails failure))) h.gave
      (λ before may. by_reads new_first new_now new.lexer.ended compared.new_run.bytes
      (λ after. IsComparison number printer panel before after (OldFails failure)) compared.new_run.gave
      (λ after may'. old_failing number printer panel old'.lexer.ended h.bytes failure failing before after may))

  -- it comes to its end, and what is right goes by NEW
  pub old_ends : None ≡ failure_of old'.progress → is_open old'.progress ≡ false → (new_now' : SourceState) (comparison : Comparison) →
      NewEndsRight new_now new_now' new found comparison → EndsRight old_now old_now' new_now new_now' old new found comparison
  old_ends none over new_now' comparison ends printer panel number old_first new_first compared old_number new_number =
      let run_out = ran printer panel old_first compared.old_made compared.old_run in
      let h : HasRun printer panel old_first old_now' (compared.old_made ++ run_out.0) old' = run_out.1 in
      let done = ends_by old'.progress printer panel h.bytes (compared.old_made ++ run_out.0) old' over (sym none) h.stands in
      let ended : HasEnded printer panel number h.bytes (compared.old_made ++ run_out.0) old'.place =
      subst (λ n. HasEnded printer panel n h.bytes (compared.old_made ++ run_out.0) old'.place) (number_is ∙ old_number) done.1 in
      let right : ByReads new_first new_now' (λ after. IsComparison number printer panel h.bytes after comparison) =
      ends printer panel number new_first compared.new_made compared.new_run new_number h.bytes (compared.old_made ++ run_out.0) old'.place
      ended (λ new_more new_end may. compared.is_found run_out.0 new_more old'.place new_end run_out.2 may) in
      by_reads old_first old_now' old'.lexer.ended h.bytes
      (λ before. ByReads new_first new_now' (λ after. IsComparison number printer panel before after comparison)) h.gave
      (λ before may.
      subst (λ job. ByReads new_first new_now' (λ after. IsComparison number printer panel job after comparison))
      (whole_job h.bytes before (subst (λ e. MayBe e h.bytes before) done.0 may)) right)

-- ---- NEW

module _ (new_now new_now' : SourceState) (new new' : RunState) (found : Comparison)
    (ran : RunsOut new_now new_now' new new') (number_is : new'.number ≡ new.number) where
  pub new_fails : (failure : Failure) → Some failure ≡ failure_of new'.progress →
      NewEndsRight new_now new_now' new found (NewFails failure)
  new_fails failure fails printer panel number new_first new_made run new_number old_bytes old_made old_place old_ended is =
      let run_out = ran printer panel new_first new_made run in
      let h : HasRun printer panel new_first new_now' (new_made ++ run_out.0) new' = run_out.1 in
      let failing : IsFailing printer panel number new'.lexer.ended h.bytes failure =
      subst (λ n. IsFailing printer panel n new'.lexer.ended h.bytes failure) (number_is ∙ new_number)
      (fails_by new'.progress printer panel h.bytes (new_made ++ run_out.0) new' failure (sym fails) h.stands) in
      by_reads new_first new_now' new'.lexer.ended h.bytes
      (λ after. IsComparison number printer panel old_bytes after (NewFails failure)) h.gave
      (λ after may. new_failing number printer panel old_bytes old_made old_place old_ended new'.lexer.ended h.bytes failure failing
      after may)

  -- neither fails, and what was found is right
  pub both_right : None ≡ failure_of new'.progress → is_open new'.progress ≡ false → NewEndsRight new_now new_now' new found found
  both_right none over printer panel number new_first new_made run new_number old_bytes old_made old_place old_ended is =
      let run_out = ran printer panel new_first new_made run in
      let h : HasRun printer panel new_first new_now' (new_made ++ run_out.0) new' = run_out.1 in
      let done = ends_by new'.progress printer panel h.bytes (new_made ++ run_out.0) new' over (sym none) h.stands in
      let ended : HasEnded printer panel number h.bytes (new_made ++ run_out.0) new'.place =
      subst (λ n. HasEnded printer panel n h.bytes (new_made ++ run_out.0) new'.place) (number_is ∙ new_number) done.1 in
      by_reads new_first new_now' new'.lexer.ended h.bytes
      (λ after. IsComparison number printer panel old_bytes after found) h.gave
      (λ after may.
      subst (λ job. IsComparison number printer panel old_bytes job found)
      (whole_job h.bytes after (subst (λ e. MayBe e h.bytes after) done.0 may))
      (both_end number printer panel old_bytes h.bytes old_made (new_made ++ run_out.0) old_place new'.place found old_ended ended
      (is run_out.0 new'.place run_out.2)))

-- ---- which job could not be read

-- a read of its own job failed
pub own_read : (which : Which) (error : Error) → is_unread_by which which error ≡ is_read error
own_read Old error = refl
own_read New error = refl

-- what is wrong with NEW is no read of OLD
pub read_no_old : {T : Type 0} (r : Result T Unread) → IfErr r (λ (u : Unread). (u.which ≡ New) × IsErrorOfJob u.error) →
    is_unread Old r ≡ false
read_no_old (Ok x) h = refl
read_no_old (Err u) h = ap (λ w. is_unread_by Old w u.error) h.0

-- and the other way round
pub read_no_new : (u : Unread) → u.which ≡ Old → is_unread_by New u.which u.error ≡ false
read_no_new u h = ap (λ w. is_unread_by New w u.error) h

-- and the error is one of a job
pub errors_of_new : {T : Type 0} (r : Result T Unread) → IfErr r (λ (u : Unread). (u.which ≡ New) × IsErrorOfJob u.error) →
    IfErr r (λ (u : Unread). IsErrorOfJob u.error)
errors_of_new (Ok x) h = tt
errors_of_new (Err u) h = h.1

-- ---- what holds anyway

pub on_ok_always : {T E P : Type 0} (r : Result T E) → P → OnOk r P
on_ok_always (Ok x) p = p
on_ok_always (Err e) p = tt
