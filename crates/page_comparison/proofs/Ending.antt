-- The pages of two jobs so far, and what comes of them in the end.
use Rattle.std.proofs.Common.{◌≡◌, ◌+◌, ℕ, Bool, true, false, List, [], ◌∷◌, ◌++◌, map, None, Some, Result, Ok, Err, IfErr}
use Rattle.std.proofs.Common.{ap, append_assoc, if◌then◌else◌, refl, subst, sym, ◌∙◌}
use Rattle.pcl_lexer.specs.Laws.{HasOneReading}
use Rattle.pcl_lexer.specs.Lexing.Meaning.{MayBe}
use Rattle.pcl_lexer.specs.Reading.{Reading, reading_of}
use Rattle.pcl_lexer.proofs.Reading.Readings.{one_reading}
use Rattle.device_profile.specs.declared.panel.Panel.{Panel}
use Rattle.device_profile.specs.Printer.{Printer}
use Rattle.page_machine.specs.Job.{ItemRun, plain_run}
use Rattle.sinks.specs.Counts.{no_counts}
use Rattle.sinks.specs.declared.counts.Counts.{Counts}
use Rattle.streams.specs.Pieces.{ByReads}
use Rattle.streams.specs.Source.{SourceState}
use Rattle.verdict.specs.declared.failure.Failure.{Failure}
use Rattle.comparison.specs.declared.compare.Which.{Which}
use Rattle.comparison.specs.declared.compare.Which.TheVariants.{Old, New}
use Rattle.comparison.specs.Comparing.{Following, HasFollowed, is_unread_by, still_made}
use Rattle.comparison.specs.Comparison.{Made, failure_on}
use Rattle.comparison.specs.Running.{HasEnded, HasRun, IsFailing, RunState, RunsOut, failure_of, is_open}
use Rattle.comparison.proofs.Comparisons.{by_reads}
use Rattle.comparison.proofs.Ends.{ends_by, fails_by, whole_job}
use Rattle.comparison.proofs.Following.{none_still}
use Rattle.page_comparison.specs.declared.differences.Most.{Most}
use Rattle.page_comparison.specs.declared.differences.Nearness.{Nearness}
use Rattle.page_comparison.specs.declared.differences.PagesError.{PagesError}
use Rattle.page_comparison.specs.declared.differences.PagesError.TheVariants.{Unread as UnreadJob, TooManyMarks, Memory}
use Rattle.page_comparison.specs.declared.setting.Setting.{Setting}
use Rattle.page_comparison.specs.Comparison.{IsPageComparison, NewFailing, OldFailing, ToldPages, failing_or, marks_compared}
use Rattle.page_comparison.specs.Comparison.{ends_compared, page_differences, pages_compared, pairs_of, same_or, setting_of}
use Rattle.page_comparison.specs.Kept.{Kept, kept_all, kept_told, none_kept, page_differs, page_kept, page_over, pages_kept}
use Rattle.page_comparison.specs.Pages.{MadePage, no_page, page_counted, pair_at, paired, pages_counted, pages_of}
use Rattle.page_comparison.specs.Reading.{AreCompared, IsErrorOfPages, IsOwnError, IsRead, IsRight, MayCome, NewFailsRight}
use Rattle.page_comparison.specs.Reading.{PagesGo, first_page, is_over, is_unread, is_unread_error, later_pages}
use Rattle.page_comparison.proofs.Keeping.{told_of_kept}
use Rattle.page_comparison.proofs.PageSteps.{over_tells}

-- ---- a page of each

-- two pages that no job has tell nothing
missing_none : (any_order : Bool) (setting : Setting) → marks_compared any_order setting [] [] ≡ []
missing_none true setting = refl
missing_none false setting = refl

missing_kept : (nearness : Nearness) (page old_end new_end : ℕ) (kept : Kept) → kept.differs ≡ false →
    kept ≡ page_kept nearness page (no_page old_end) (no_page new_end) kept
missing_kept nearness page old_end new_end kept idle =
    let none : page_differences nearness page (no_page old_end) (no_page new_end) ≡ [] =
    ap (λ l. l ++ ends_compared page (no_page old_end) (no_page new_end))
    (missing_none nearness.any_order (setting_of nearness page (no_page old_end) (no_page new_end))) in
    sym
    (ap (λ l. page_over (pair_at page (no_page old_end) (no_page new_end)) (kept_all l kept)) none
    ∙ ap (λ (d : Bool). if d then page_differs (pair_at page (no_page old_end) (no_page new_end)) kept else kept) idle)

module _ (old_end new_end : ℕ) where
  paired_rest : (old : List MadePage) → map (λ page. (page, no_page new_end)) old ≡ paired old_end new_end old []
  paired_rest [] = refl
  paired_rest (a ∷ old) = refl

  -- the first page of each, and the later ones
  pairs_kept : (nearness : Nearness) (page : ℕ) (old new : List MadePage) (kept : Kept) → kept.differs ≡ false →
      pages_kept nearness page (paired old_end new_end old new) kept
      ≡ pages_kept nearness (page + 1) (paired old_end new_end (later_pages old) (later_pages new))
      (page_kept nearness page (first_page old_end old) (first_page new_end new) kept)
  pairs_kept nearness page [] [] kept idle = missing_kept nearness page old_end new_end kept idle
  pairs_kept nearness page [] (b ∷ new) kept idle = refl
  pairs_kept nearness page (a ∷ old) [] kept idle =
      ap (λ l. pages_kept nearness (page + 1) l (page_kept nearness page a (no_page new_end) kept)) (paired_rest old)
  pairs_kept nearness page (a ∷ old) (b ∷ new) kept idle = refl

  pairs_counted : (old new : List MadePage) (counts : Counts) →
      pages_counted (paired old_end new_end old new) counts
      ≡ pages_counted (paired old_end new_end (later_pages old) (later_pages new)) (page_counted (first_page old_end old) counts)
  pairs_counted [] [] counts = refl
  pairs_counted [] (b ∷ new) counts = refl
  pairs_counted (a ∷ old) [] counts = ap (λ l. pages_counted l (page_counted a counts)) (paired_rest old)
  pairs_counted (a ∷ old) (b ∷ new) counts = refl

-- what may come behind a page may come with it
may_before : (old new : Following) (made rest : List Made) (end : ℕ) → (is_over old ≡ true → (made ≡ []) × (new ≡ old)) →
    MayCome new rest end → MayCome old (made ++ rest) end
may_before old new made rest end stays may over =
    let same = stays over in
    let none = may (ap is_over same.1 ∙ over) in
    ((λ i. same.0 i ++ none.0 i), none.1 ∙ ap (λ (f : Following). f.run.place) same.1)

module _ (nearness : Nearness) (most : Most) (printer : Printer) (panel : Panel)
    (old_first old_now old_now' new_first new_now new_now' : SourceState) (old old' new new' : Following) (page : ℕ)
    (kept kept' : Kept) (counts counts' : Counts) (one other : MadePage)
    (go : PagesGo nearness most printer panel old_first old_now new_first new_now old new page kept counts)
    (of_old : IsRead printer panel old_first old_now' go.old_taken old old' one)
    (of_new : IsRead printer panel new_first new_now' go.new_taken new new' other) (idle : kept.differs ≡ false)
    (kept_is : kept' ≡ page_kept nearness page one other kept) (counts_are : counts' ≡ page_counted one counts) where
  further : (old_rest new_rest : List Made) (old_end new_end : ℕ) → MayCome old' old_rest old_end → MayCome new' new_rest new_end →
      AreCompared nearness most
      (paired old_end new_end (pages_of old_end ((go.old_taken ++ of_old.made) ++ old_rest))
      (pages_of new_end ((go.new_taken ++ of_new.made) ++ new_rest)))
      (paired old_end new_end (pages_of old_end old_rest) (pages_of new_end new_rest)) (page + 1) kept' counts'
  further old_rest new_rest old_end new_end may_old may_new =
      let P : List MadePage = pages_of old_end (of_old.made ++ old_rest) in
      let Q : List MadePage = pages_of new_end (of_new.made ++ new_rest) in
      let before =
      go.so_far (of_old.made ++ old_rest) (of_new.made ++ new_rest) old_end new_end
      (may_before old old' of_old.made old_rest old_end of_old.stays may_old)
      (may_before new new' of_new.made new_rest new_end of_new.stays may_new) in
      let P_is = of_old.front old_rest old_end may_old in
      let Q_is = of_new.front new_rest new_end may_new in
      let all_is :
      paired old_end new_end (pages_of old_end ((go.old_taken ++ of_old.made) ++ old_rest))
      (pages_of new_end ((go.new_taken ++ of_new.made) ++ new_rest))
      ≡ paired old_end new_end (pages_of old_end (go.old_taken ++ (of_old.made ++ old_rest)))
      (pages_of new_end (go.new_taken ++ (of_new.made ++ new_rest))) =
      λ i. paired old_end new_end (pages_of old_end (append_assoc go.old_taken of_old.made old_rest i))
      (pages_of new_end (append_assoc go.new_taken of_new.made new_rest i)) in (
        ap (λ l. pages_kept nearness 1 l (none_kept most)) all_is
            ∙ (before.0
            ∙ (pairs_kept old_end new_end nearness page P Q kept idle
            ∙ ((λ i. pages_kept nearness (page + 1) (paired old_end new_end (P_is.1 i) (Q_is.1 i))
            (page_kept nearness page (P_is.0 i) (Q_is.0 i) kept))
            ∙ ap
            (pages_kept nearness (page + 1) (paired old_end new_end (pages_of old_end old_rest) (pages_of new_end new_rest)))
            (sym kept_is)))),
        ap (λ l. pages_counted l no_counts) all_is
            ∙ (before.1
            ∙ (pairs_counted old_end new_end P Q counts
            ∙ ((λ i. pages_counted (paired old_end new_end (P_is.1 i) (Q_is.1 i)) (page_counted (P_is.0 i) counts))
            ∙ ap
            (pages_counted (paired old_end new_end (pages_of old_end old_rest) (pages_of new_end new_rest)))
            (sym counts_are)))),
      )

  -- both pages are behind
  pub go_further : PagesGo nearness most printer panel old_first old_now' new_first new_now' old' new' (page + 1) kept' counts'
  go_further = record {
    old_taken = go.old_taken ++ of_old.made;
    new_taken = go.new_taken ++ of_new.made;
    old_followed = of_old.followed;
    new_followed = of_new.followed;
    so_far = further;
  }

-- nothing is read
pub go_none : (nearness : Nearness) (most : Most) (printer : Printer) (panel : Panel) (old_first old_now new_first new_now : SourceState)
    (old new : Following) (kept : Kept) (counts : Counts) → kept ≡ none_kept most → counts ≡ no_counts →
    HasFollowed printer panel old_first old_now [] old → HasFollowed printer panel new_first new_now [] new →
    PagesGo nearness most printer panel old_first old_now new_first new_now old new 1 kept counts
go_none nearness most printer panel old_first old_now new_first new_now old new kept counts kept_is counts_are of_old of_new = record {
  old_taken = [];
  new_taken = [];
  old_followed = of_old;
  new_followed = of_new;
  so_far = λ old_rest new_rest old_end new_end may_old may_new.
      let pairs : List (MadePage × MadePage) =
      paired old_end new_end (pages_of old_end old_rest) (pages_of new_end new_rest) in
      (ap (pages_kept nearness 1 pairs) (sym kept_is), ap (pages_counted pairs) (sym counts_are));
}

-- ---- what comes of it

module _ (nearness : Nearness) (most : Most) (number : ℕ) (printer : Printer) (panel : Panel) where
  abbrev items_from : Reading → List ItemRun
  items_from reading = (plain_run printer panel reading).items

  abbrev compared_from : Reading → Reading → ToldPages
  compared_from old new = pages_compared nearness most (pairs_of old new (items_from old) (items_from new))

  abbrev judged_from : Reading → Reading → ToldPages
  judged_from old new = failing_or NewFailing (failure_on number (items_from new) new) (compared_from old new)

  -- OLD fails, whatever NEW is
  old_failing : (ended : Bool) (bytes : List ℕ) (failure : Failure) → IsFailing printer panel number ended bytes failure →
      (before after : List ℕ) → MayBe ended bytes before →
      IsPageComparison nearness most number printer panel before after (OldFailing failure)
  old_failing ended bytes failure fails before after may =
      let old = fails before may in
      let one : HasOneReading after = one_reading after in (
        old.0,
        old.1,
        reading_of after,
        one.read,
        sym (ap (λ found. failing_or OldFailing found (judged_from old.0 (reading_of after))) old.2),
      )

  -- OLD does not fail, and NEW does
  new_failing : (old_bytes : List ℕ) (made : List Made) (place : ℕ) → HasEnded printer panel number old_bytes made place →
      (ended : Bool) (bytes : List ℕ) (failure : Failure) → IsFailing printer panel number ended bytes failure →
      (after : List ℕ) → MayBe ended bytes after →
      IsPageComparison nearness most number printer panel old_bytes after (NewFailing failure)
  new_failing old_bytes made place old ended bytes failure fails after may =
      let new = fails after may in (
        old.reading,
        old.spelled,
        new.0,
        new.1,
        sym
            (ap (λ found. failing_or OldFailing found (judged_from old.reading new.0)) old.passing
            ∙ ap (λ found. failing_or NewFailing found (compared_from old.reading new.0)) new.2),
      )

  -- neither fails
  both_end : (old_bytes new_bytes : List ℕ) (old_made new_made : List Made) (old_place new_place : ℕ) (told : ToldPages) →
      HasEnded printer panel number old_bytes old_made old_place → HasEnded printer panel number new_bytes new_made new_place →
      pages_compared nearness most
      (paired old_place new_place (pages_of old_place old_made) (pages_of new_place new_made)) ≡ told →
      IsPageComparison nearness most number printer panel old_bytes new_bytes told
  both_end old_bytes new_bytes old_made new_made old_place new_place told old new is = (
    old.reading,
    old.spelled,
    new.reading,
    new.spelled,
    sym
        (ap (λ failure. failing_or OldFailing failure (judged_from old.reading new.reading)) old.passing
        ∙ (ap (λ failure. failing_or NewFailing failure (compared_from old.reading new.reading)) new.passing
        ∙ ((λ i. pages_compared nearness most
        (paired (sym old.place_is i) (sym new.place_is i) (pages_of (sym old.place_is i) (old.making i))
        (pages_of (sym new.place_is i) (new.making i)))) ∙ is))),
  )

  -- ---- of two jobs that were followed

  module _ (old_first old_now new_first new_now : SourceState) (old new : RunState) (old_made new_made : List Made)
      (of_old : HasRun printer panel old_first old_now old_made old) (of_new : HasRun printer panel new_first new_now new_made new)
      (old_number : old.number ≡ number) (new_number : new.number ≡ number) where
    old_ended : is_open old.progress ≡ false → failure_of old.progress ≡ None →
        (old.lexer.ended ≡ true) × HasEnded printer panel number of_old.bytes old_made old.place
    old_ended over none =
        let done = ends_by old.progress printer panel of_old.bytes old_made old over none of_old.stands in
        (done.0, subst (λ n. HasEnded printer panel n of_old.bytes old_made old.place) old_number done.1)

    -- what is right of the one job that OLD is
    with_old : (told : ToldPages) → old.lexer.ended ≡ true →
        ByReads new_first new_now (λ after. IsPageComparison nearness most number printer panel of_old.bytes after told) →
        IsRight nearness most number printer panel old_first old_now new_first new_now told
    with_old told ended right =
        by_reads old_first old_now old.lexer.ended of_old.bytes
        (λ before. ByReads new_first new_now (λ after. IsPageComparison nearness most number printer panel before after told))
        of_old.gave
        (λ before may.
        subst
        (λ job. ByReads new_first new_now (λ after. IsPageComparison nearness most number printer panel job after told))
        (whole_job of_old.bytes before (subst (λ e. MayBe e of_old.bytes before) ended may)) right)

    pub old_fails : (failure : Failure) → failure_of old.progress ≡ Some failure →
        IsRight nearness most number printer panel old_first old_now new_first new_now (OldFailing failure)
    old_fails failure fails =
        let failing : IsFailing printer panel number old.lexer.ended of_old.bytes failure =
        subst (λ n. IsFailing printer panel n old.lexer.ended of_old.bytes failure) old_number
        (fails_by old.progress printer panel of_old.bytes old_made old failure fails of_old.stands) in
        by_reads old_first old_now old.lexer.ended of_old.bytes
        (λ before. ByReads new_first new_now
        (λ after. IsPageComparison nearness most number printer panel before after (OldFailing failure)))
        of_old.gave
        (λ before may. by_reads new_first new_now new.lexer.ended of_new.bytes
        (λ after. IsPageComparison nearness most number printer panel before after (OldFailing failure)) of_new.gave
        (λ after may'. old_failing old.lexer.ended of_old.bytes failure failing before after may))

    pub new_fails : is_open old.progress ≡ false → failure_of old.progress ≡ None → (failure : Failure) →
        failure_of new.progress ≡ Some failure →
        IsRight nearness most number printer panel old_first old_now new_first new_now (NewFailing failure)
    new_fails over none failure fails =
        let done = old_ended over none in
        let failing : IsFailing printer panel number new.lexer.ended of_new.bytes failure =
        subst (λ n. IsFailing printer panel n new.lexer.ended of_new.bytes failure) new_number
        (fails_by new.progress printer panel of_new.bytes new_made new failure fails of_new.stands) in
        with_old (NewFailing failure) done.0
        (by_reads new_first new_now new.lexer.ended of_new.bytes
        (λ after. IsPageComparison nearness most number printer panel of_old.bytes after (NewFailing failure)) of_new.gave
        (λ after may. new_failing of_old.bytes old_made old.place done.1 new.lexer.ended of_new.bytes failure failing after may))

    pub both_right : is_open old.progress ≡ false → failure_of old.progress ≡ None → is_open new.progress ≡ false →
        failure_of new.progress ≡ None → (told : ToldPages) →
        pages_compared nearness most
        (paired old.place new.place (pages_of old.place old_made) (pages_of new.place new_made)) ≡ told →
        IsRight nearness most number printer panel old_first old_now new_first new_now told
    both_right over none over' none' told is =
        let done = old_ended over none in
        let done' = ends_by new.progress printer panel of_new.bytes new_made new over' none' of_new.stands in
        let ended : HasEnded printer panel number of_new.bytes new_made new.place =
        subst (λ n. HasEnded printer panel n of_new.bytes new_made new.place) new_number done'.1 in
        with_old told done.0
        (by_reads new_first new_now new.lexer.ended of_new.bytes
        (λ after. IsPageComparison nearness most number printer panel of_old.bytes after told) of_new.gave
        (λ after may.
        subst (λ job. IsPageComparison nearness most number printer panel of_old.bytes job told)
        (whole_job of_new.bytes after (subst (λ e. MayBe e of_new.bytes after) done'.0 may))
        (both_end of_old.bytes of_new.bytes old_made new_made old.place new.place told done.1 ended is)))

-- both jobs are over: what was kept is what comes of them
pub pages_over : (nearness : Nearness) (most : Most) (number : ℕ) (printer : Printer) (panel : Panel)
    (old_first old_now new_first new_now : SourceState) (old new : Following) (page : ℕ) (kept : Kept) (counts : Counts) →
    PagesGo nearness most printer panel old_first old_now new_first new_now old new page kept counts →
    old.run.number ≡ number → new.run.number ≡ number → is_over old ≡ true → is_over new ≡ true →
    failure_of old.run.progress ≡ None → failure_of new.run.progress ≡ None → (told : ToldPages) →
    told ≡ same_or counts (kept_told kept) →
    IsRight nearness most number printer panel old_first old_now new_first new_now told
pages_over nearness most number printer panel old_first old_now new_first new_now old new page kept counts go old_number new_number
    old_over new_over old_passes new_passes told told_is =
    let one = over_tells old old_over in
    let other = over_tells new new_over in
    let all : List (MadePage × MadePage) =
    paired old.run.place new.run.place (pages_of old.run.place (go.old_taken ++ still_made old))
    (pages_of new.run.place (go.new_taken ++ still_made new)) in
    let done =
    go.so_far [] [] old.run.place new.run.place (λ over. (refl, refl)) (λ over. (refl, refl)) in
    let all_is :
    all
    ≡ paired old.run.place new.run.place (pages_of old.run.place (go.old_taken ++ []))
    (pages_of new.run.place (go.new_taken ++ [])) =
    λ i. paired old.run.place new.run.place (pages_of old.run.place (go.old_taken ++ none_still old one.0 i))
    (pages_of new.run.place (go.new_taken ++ none_still new other.0 i)) in
    let kept_is : pages_kept nearness 1 all (none_kept most) ≡ kept =
    ap (λ l. pages_kept nearness 1 l (none_kept most)) all_is ∙ done.0 in
    let counts_are : pages_counted all no_counts ≡ counts = ap (λ l. pages_counted l no_counts) all_is ∙ done.1 in
    let told_all : pages_compared nearness most all ≡ told =
    (λ i. same_or (counts_are i) (sym (told_of_kept nearness most all) i))
    ∙ (ap (λ k. same_or counts (kept_told k)) kept_is ∙ sym told_is) in
    both_right nearness most number printer panel old_first old_now new_first new_now old.run new.run
    (go.old_taken ++ still_made old) (go.new_taken ++ still_made new) go.old_followed.has_run go.new_followed.has_run old_number
    new_number one.1 old_passes other.1 new_passes told told_all

-- NEW fails, and OLD is carried out to its end
module _ (old_now old_now' : SourceState) (old : Following) (old' : RunState) (ran : RunsOut old_now old_now' old.run old')
    (number_is : old'.number ≡ old.run.number) (failure : Failure) where
  pub new_fails_old : (own : Failure) → failure_of old'.progress ≡ Some own →
      NewFailsRight old_now old_now' old failure (OldFailing own)
  new_fails_old own fails nearness most number printer panel old_first new_first new_now new old_taken new_taken of_old of_new
      old_number new_number is =
      let run_out = ran printer panel old_first (old_taken ++ still_made old) of_old.has_run in
      old_fails nearness most number printer panel old_first old_now' new_first new_now old' new.run
      ((old_taken ++ still_made old) ++ run_out.0) (new_taken ++ still_made new) run_out.1 of_new.has_run (number_is ∙ old_number)
      new_number own fails

  pub new_fails_new : is_open old'.progress ≡ false → failure_of old'.progress ≡ None →
      NewFailsRight old_now old_now' old failure (NewFailing failure)
  new_fails_new over none nearness most number printer panel old_first new_first new_now new old_taken new_taken of_old of_new
      old_number new_number is =
      let run_out = ran printer panel old_first (old_taken ++ still_made old) of_old.has_run in
      new_fails nearness most number printer panel old_first old_now' new_first new_now old' new.run
      ((old_taken ++ still_made old) ++ run_out.0) (new_taken ++ still_made new) run_out.1 of_new.has_run (number_is ∙ old_number)
      new_number over none failure is

-- ---- which job could not be read

-- what is wrong with one job is no read of the other
pub no_read_of_old : (error : PagesError) → IsOwnError New error → is_unread_error Old error ≡ false
no_read_of_old (UnreadJob unread) h = ap (λ w. is_unread_by Old w unread.error) h
no_read_of_old (TooManyMarks page) h = refl
no_read_of_old Memory h = refl

pub no_read_of_new : (error : PagesError) → IsOwnError Old error → is_unread_error New error ≡ false
no_read_of_new (UnreadJob unread) h = ap (λ w. is_unread_by New w unread.error) h
no_read_of_new (TooManyMarks page) h = refl
no_read_of_new Memory h = refl

-- so of a result whose errors are of OLD
pub own_no_new : {T : Type 0} (r : Result T PagesError) → IfErr r (λ error. IsOwnError Old error × IsErrorOfPages error) →
    is_unread New r ≡ false
own_no_new (Ok x) h = refl
own_no_new (Err error) h = no_read_of_new error h.0

pub own_errors : {T : Type 0} (which : Which) (r : Result T PagesError) →
    IfErr r (λ error. IsOwnError which error × IsErrorOfPages error) → IfErr r (λ error. IsErrorOfPages error)
own_errors which (Ok x) h = tt
own_errors which (Err error) h = h.1
