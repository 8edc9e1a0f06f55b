-- How a page is read, event by event.
use Rattle.std.proofs.Common.{◌≡◌, ◌+◌, ◌≤◌, ℕ, Bool, true, false, List, [], ◌∷◌, ◌++◌, length, drop, Option, None, Some}
use Rattle.std.proofs.Common.{ap, append-nil, append_assoc, arith, refl, subst, sym, ◌∙◌}
use Rattle.std.proofs.lemmas.Bool.{false≢true, not-true}
use Rattle.std.proofs.lemmas.List.{drop-drop, length_push}
use Rattle.device_profile.specs.declared.panel.Panel.{Panel}
use Rattle.device_profile.specs.Printer.{Printer}
use Rattle.page_machine.specs.Event.{Event, Marked, Ended}
use Rattle.streams.specs.Source.{SourceState}
use Rattle.comparison.specs.Comparing.{Following, FollowsOn, HasFollowed, next_of, still_made}
use Rattle.comparison.specs.Comparison.{Made}
use Rattle.comparison.specs.Running.{HasRun, RunState, is_open, last_made}
use Rattle.comparison.proofs.Following.{next_still}
use Rattle.page_comparison.specs.Pages.{MadeMark, MadePage, last_page, no_page, pages_from, pages_of}
use Rattle.page_comparison.specs.Reading.{Collects, IsRead, ReadsPage, TakesEvent, TakesNext, first_page}
use Rattle.page_comparison.specs.Reading.{is_mark, is_over, is_over_by, later_pages, new_page, page_at_end, page_with}

-- ---- whether a job is over

pub over_now : (following : Following) → next_of following ≡ None → is_open following.run.progress ≡ false →
    is_over following ≡ true
over_now following none closed = λ i. is_over_by (none i) (closed i)

pub over_tells : (following : Following) → is_over following ≡ true →
    (next_of following ≡ None) × (is_open following.run.progress ≡ false)
over_tells following is = tells (next_of following) refl is
  where
    tells : (o : Option Event) → next_of following ≡ o → is_over_by o (is_open following.run.progress) ≡ true →
        (next_of following ≡ None) × (is_open following.run.progress ≡ false)
    tells None e h = (e, not-true (is_open following.run.progress) h)
    tells (Some event) e h = absurd (false≢true h)

-- ---- an event that is taken

drop_one : {X : Type 0} (n : ℕ) (xs ys : List X) (y : X) → drop n xs ≡ y ∷ ys → drop (n + 1) xs ≡ ys
drop_one n xs ys y e = sym (drop-drop 1 n xs) ∙ ap (drop 1) e

abbrev made_by : Event → ℕ → Made
made_by event place = record { place = place; event = event }

pub passed : (old new : Following) (place : ℕ) (event : Event) → place ≡ old.run.place → Some event ≡ next_of old →
    new ≡ record old { taken = old.taken + 1 } →
    (still_made old ≡ record { place = place; event = event } ∷ still_made new) × (new.run ≡ old.run)
passed old new place event place_is is new_is =
    let next = next_still old event (sym is) in
    let here : Following = record old { taken = old.taken + 1 } in
    let rest : still_made here ≡ next.0 =
    drop_one old.taken (last_made old.run) next.0 (made_by event old.run.place) next.1 in
    let moved : made_by event old.run.place ∷ next.0 ≡ made_by event place ∷ still_made here =
    λ i. made_by event (sym place_is i) ∷ sym rest i in (
      next.1 ∙ (moved ∙ ap (λ (f : Following). made_by event place ∷ still_made f) (sym new_is)),
      ap (λ (f : Following). f.run) new_is,
    )

module _ (now now' : SourceState) (old mid new : Following) (page page' : MadePage) (ran : FollowsOn now now' old mid) where
  taken_on : (goes_on : Bool) → TakesEvent mid new page page' (Some goes_on) → TakesNext now now' old new page page' (Some goes_on)
  taken_on goes_on took printer panel first taken h =
      let followed : HasFollowed printer panel first now' taken mid = ran printer panel first taken h in
      let made_is : taken ++ still_made mid ≡ (taken ++ took.0 ∷ []) ++ still_made new =
      ap (λ l. taken ++ l) took.1 ∙ sym (append_assoc taken (took.0 ∷ []) (still_made new)) in
      let behind : HasRun printer panel first now' ((taken ++ took.0 ∷ []) ++ still_made new) mid.run =
      subst (λ l. HasRun printer panel first now' l mid.run) made_is followed.has_run in (
        took.0,
        record {
          has_run =
              subst (λ (r : RunState). HasRun printer panel first now' ((taken ++ took.0 ∷ []) ++ still_made new) r) (sym took.2) behind;
        },
        took.3,
        took.4,
      )

  over_on : TakesEvent mid new page page' None → TakesNext now now' old new page page' None
  over_on took printer panel first taken h = (
    subst (λ (f : Following). HasFollowed printer panel first now' taken f) (sym took.0) (ran printer panel first taken h),
    ap is_over took.0 ∙ took.1,
    took.2 ∙ ap (λ (f : Following). page_at_end f.run.place page) (sym took.0),
  )

  pub next_taken : (came : Option Bool) → TakesEvent mid new page page' came → TakesNext now now' old new page page' came
  next_taken (Some goes_on) took = taken_on goes_on took
  next_taken None took = over_on took

-- ---- a page, event by event

grown_by : (made : Made) (page : MadePage) → length (page_with made page).marks ≤ length page.marks + 1
grown_by made page = by_event made.event refl
  where
    by_event : (event : Event) → made.event ≡ event → length (page_with (record made { event = event }) page).marks ≤ length page.marks + 1
    by_event (Marked shape) e =
        let pushed = length_push page.marks (record { place = made.place; shape = shape }) in omega (arith, pushed)
    by_event (Ended values) e = omega arith

pub few_more : (made : Made) (page page' : MadePage) → page' ≡ page_with made page →
    length page'.marks ≤ length page.marks + 1
few_more made page page' is =
    subst (λ (p : MadePage). length p.marks ≤ length page.marks + 1) (sym is) (grown_by made page)

pub few_at_end : (place : ℕ) (page page' : MadePage) → page' ≡ page_at_end place page →
    length page'.marks ≤ length page.marks + 1
few_at_end place page page' is =
    subst (λ (p : MadePage). length p.marks ≤ length page.marks + 1) (sym is) (omega arith)

-- what a mark leaves of the pages
marked_front : (made : Made) (page : MadePage) (end : ℕ) (rest : List Made) → is_mark made.event ≡ true →
    pages_from end page.marks (made ∷ rest) ≡ pages_from end (page_with made page).marks rest
marked_front made page end rest h = by_kind made.event h
  where
    by_kind : (event : Event) → is_mark event ≡ true →
        pages_from end page.marks (record made { event = event } ∷ rest)
        ≡ pages_from end (page_with (record made { event = event }) page).marks rest
    by_kind (Marked shape) e = refl
    by_kind (Ended values) e = absurd (false≢true e)

marked_end : (made : Made) (page : MadePage) → is_mark made.event ≡ true → page.end ≡ None → (page_with made page).end ≡ None
marked_end made page h none = by_kind made.event h
  where
    by_kind : (event : Event) → is_mark event ≡ true → (page_with (record made { event = event }) page).end ≡ None
    by_kind (Marked shape) e = none
    by_kind (Ended values) e = absurd (false≢true e)

-- and an end
ended_front : (made : Made) (page : MadePage) (end : ℕ) (rest : List Made) → is_mark made.event ≡ false →
    pages_from end page.marks (made ∷ rest) ≡ page_with made page ∷ pages_of end rest
ended_front made page end rest h = by_kind made.event h
  where
    by_kind : (event : Event) → is_mark event ≡ false →
        pages_from end page.marks (record made { event = event } ∷ rest)
        ≡ page_with (record made { event = event }) page ∷ pages_of end rest
    by_kind (Marked shape) e = absurd (false≢true (sym e))
    by_kind (Ended values) e = refl

module _ (printer : Printer) (panel : Panel) (first now : SourceState) (taken : List Made) where
  -- a page that has begun
  pub collects_none : (following : Following) (page : MadePage) → page ≡ new_page →
      HasFollowed printer panel first now taken following → Collects printer panel first now taken following page
  collects_none following page is h = record {
    made = [];
    followed = subst (λ l. HasFollowed printer panel first now l following) (sym (append-nil taken)) h;
    front = λ rest end. ap (λ (p : MadePage). pages_from end p.marks rest) (sym is);
    unended = ap (λ (p : MadePage). p.end) is;
  }

module _ (printer : Printer) (panel : Panel) (first now now' : SourceState) (taken : List Made) (old new : Following)
    (page page' : MadePage) (so_far : Collects printer panel first now taken old page) where
  behind_made : (made : Made) (rest : List Made) (end : ℕ) →
      pages_of end ((so_far.made ++ made ∷ []) ++ rest) ≡ pages_from end page.marks (made ∷ rest)
  behind_made made rest end =
      ap (pages_of end) (append_assoc so_far.made (made ∷ []) rest) ∙ so_far.front (made ∷ rest) end

  followed_behind : (made : Made) → HasFollowed printer panel first now' ((taken ++ so_far.made) ++ made ∷ []) new →
      HasFollowed printer panel first now' (taken ++ (so_far.made ++ made ∷ [])) new
  followed_behind made h =
      subst (λ l. HasFollowed printer panel first now' l new) (append_assoc taken so_far.made (made ∷ [])) h

  pub collects_more : TakesNext now now' old new page page' (Some true) → Collects printer panel first now' taken new page'
  collects_more took =
      let next = took printer panel first (taken ++ so_far.made) so_far.followed in record {
        made = so_far.made ++ next.0 ∷ [];
        followed = followed_behind next.0 next.1;
        front = λ rest end.
            behind_made next.0 rest end
            ∙ (marked_front next.0 page end rest next.2
            ∙ ap (λ (p : MadePage). pages_from end p.marks rest) (sym next.3));
        unended = ap (λ (p : MadePage). p.end) next.3 ∙ marked_end next.0 page next.2 so_far.unended;
      }

  -- the page ends
  pub read_ended : (start : Following) → is_over start ≡ false → TakesNext now now' old new page page' (Some false) →
      IsRead printer panel first now' taken start new page'
  read_ended start unended took =
      let next = took printer panel first (taken ++ so_far.made) so_far.followed in
      let pages_are : (rest : List Made) (end : ℕ) →
      pages_of end ((so_far.made ++ next.0 ∷ []) ++ rest) ≡ page_with next.0 page ∷ pages_of end rest =
      λ rest end. behind_made next.0 rest end ∙ ended_front next.0 page end rest next.2 in
      record {
        made = so_far.made ++ next.0 ∷ [];
        followed = followed_behind next.0 next.1;
        front = λ rest end may. (
          ap (first_page end) (pages_are rest end) ∙ sym next.3,
          ap later_pages (pages_are rest end),
        );
        stays = λ over. absurd (false≢true (sym unended ∙ over));
      }

  -- or the job is over
  pub read_over : (start : Following) → is_over start ≡ false → TakesNext now now' old new page page' None →
      IsRead printer panel first now' taken start new page'
  read_over start unended took =
      let next = took printer panel first (taken ++ so_far.made) so_far.followed in record {
        made = so_far.made;
        followed = next.0;
        front = λ rest end may.
            let over = may next.1 in
            let pages_are : pages_of end (so_far.made ++ rest) ≡ last_page end page.marks =
            so_far.front rest end ∙ ap (pages_from end page.marks) over.0 in
            let ended : page_at_end new.run.place page ≡ page' = sym next.2 in
            let placed : (record { marks = page.marks; end = None; place = end }) ≡ page_at_end new.run.place page =
            λ i. record { marks = page.marks; end = sym so_far.unended i; place = over.1 i } in (
              ap (first_page end) pages_are ∙ (last_first end page.marks ∙ (placed ∙ ended)),
              ap later_pages pages_are ∙ (last_later end page.marks ∙ ap (pages_of end) (sym over.0)),
            );
        stays = λ over. absurd (false≢true (sym unended ∙ over));
      }
    where
      last_first : (end : ℕ) (marks : List MadeMark) →
          first_page end (last_page end marks) ≡ record { marks = marks; end = None; place = end }
      last_first end [] = refl
      last_first end (mark ∷ marks) = refl

      last_later : (end : ℕ) (marks : List MadeMark) → later_pages (last_page end marks) ≡ []
      last_later end [] = refl
      last_later end (mark ∷ marks) = refl

-- of a job that is over nothing is read
pub reads_none : (now : SourceState) (following : Following) (page : MadePage) → is_over following ≡ true →
    page ≡ page_at_end following.run.place new_page → ReadsPage now now following following page
reads_none now following page over is printer panel first taken h = record {
  made = [];
  followed = subst (λ l. HasFollowed printer panel first now l following) (sym (append-nil taken)) h;
  front = λ rest end may.
      let none = may over in
      let pages_are : pages_of end rest ≡ [] = ap (pages_of end) none.0 in (
        ap (first_page end) pages_are ∙ (ap no_page none.1 ∙ sym is),
        ap later_pages pages_are ∙ sym pages_are,
      );
  stays = λ over'. (refl, refl);
}
