-- How the pages of two jobs are read that are carried out, and what is known of them so far.
use Rattle.std.specs.Prelude.{◌≡◌, ℕ, List, [], ◌∷◌, ◌++◌, Bool, true, false, not, Option, None, Some, Result, Ok, Err}
use Rattle.device_profile.specs.declared.panel.Panel.{Panel}
use Rattle.device_profile.specs.Printer.{Printer}
use Rattle.page_env.specs.declared.mark.PageEnd.{PageEnd}
use Rattle.page_env.specs.Mark.{Shape}
use Rattle.page_machine.specs.Event.{Event}
use Rattle.sinks.specs.Counts.{no_counts}
use Rattle.sinks.specs.declared.counts.Counts.{Counts}
use Rattle.streams.specs.Pieces.{ByReads}
use Rattle.streams.specs.Source.{SourceState}
use Rattle.verdict.specs.declared.failure.Failure.{Failure}
use Rattle.comparison.specs.declared.compare.Which.{Which}
use Rattle.comparison.specs.Comparing.{Following, HasFollowed, is_unread_by, next_of, still_made}
use Rattle.comparison.specs.Comparison.{Made}
use Rattle.comparison.specs.Running.{IsErrorOfJob, failure_of, is_open}
use Rattle.page_comparison.specs.declared.differences.Most.{Most}
use Rattle.page_comparison.specs.declared.differences.Nearness.{Nearness}
use Rattle.page_comparison.specs.declared.differences.PagesError.{PagesError}
use Rattle.page_comparison.specs.declared.differences.PagesError.TheVariants.{Unread as UnreadJob, TooManyMarks, Memory}
use Rattle.page_comparison.specs.Comparison.{IsPageComparison, ToldPages}
use Rattle.page_comparison.specs.Kept.{Kept, none_kept, pages_kept}
use Rattle.page_comparison.specs.Pages.{MadePage, by_event, no_page, paired, pages_counted, pages_from, pages_of}

-- ---- what is still to come of a job

abbrev pub is_over_by : Option Event → (open_still : Bool) → Bool
is_over_by (Some event) open_still = false
is_over_by None open_still = not open_still

-- all that it makes is behind it, and it is over
abbrev pub is_over : Following → Bool
is_over following = is_over_by (next_of following) (is_open following.run.progress)

-- it may still make this, and end at this place; of a job that is over nothing more comes, and it ends where it stands
abbrev pub MayCome : Following → List Made → ℕ → Type 0
MayCome following rest end = is_over following ≡ true → (rest ≡ []) × (end ≡ following.run.place)

-- ---- a page that is read

abbrev pub new_page : MadePage
new_page = no_page 0

abbrev pub is_mark : Event → Bool
is_mark event = by_event (λ (shape : Shape). true) (λ (values : PageEnd). false) event

-- the page behind what is made
abbrev pub page_with : Made → MadePage → MadePage
page_with made page =
    by_event
    (λ (shape : Shape). record page { marks = page.marks ++ record { place = made.place; shape = shape } ∷ [] })
    (λ (values : PageEnd). record page { end = Some values; place = made.place })
    made.event

-- the job is over, and the page ends where it does
abbrev pub page_at_end : ℕ → MadePage → MadePage
page_at_end place page = record page { place = place }

-- the event that has come is taken; or none has, and the job is over
abbrev pub TakesEvent : (old new : Following) → (page page' : MadePage) → Option Bool → Type 0
TakesEvent old new page page' (Some goes_on) =
    (made : Made) × (still_made old ≡ made ∷ still_made new) × (new.run ≡ old.run) × (is_mark made.event ≡ goes_on)
    × (page' ≡ page_with made page)
TakesEvent old new page page' None =
    (new ≡ old) × (is_over old ≡ true) × (page' ≡ page_at_end old.run.place page)

-- behind what was made so far this came next, and is on the page, which goes on where it is a mark; or the job is over
abbrev pub NextTaken : Option Bool → Printer → Panel → (first now : SourceState) → List Made → Following →
    (page page' : MadePage) → Type 0
NextTaken (Some goes_on) printer panel first now taken following page page' =
    (made : Made) × HasFollowed printer panel first now (taken ++ made ∷ []) following
    × (is_mark made.event ≡ goes_on) × (page' ≡ page_with made page)
NextTaken None printer panel first now taken following page page' =
    HasFollowed printer panel first now taken following × (is_over following ≡ true)
    × (page' ≡ page_at_end following.run.place page)

abbrev pub TakesNext : (now now' : SourceState) → (old new : Following) → (page page' : MadePage) → Option Bool → Type 0
TakesNext now now' old new page page' came =
    (printer : Printer) (panel : Panel) (first : SourceState) (taken : List Made) →
    HasFollowed printer panel first now taken old → NextTaken came printer panel first now' taken new page page'

-- the first of these pages, where the job ends at this place
abbrev pub first_page : ℕ → List MadePage → MadePage
first_page end [] = no_page end
first_page end (page ∷ pages) = page

abbrev pub later_pages : List MadePage → List MadePage
later_pages [] = []
later_pages (page ∷ pages) = pages

-- of what was made and what comes behind it, this page is the first, and those behind it come next
abbrev pub IsFront : ℕ → MadePage → (made rest : List Made) → Type 0
IsFront end page made rest =
    (first_page end (pages_of end (made ++ rest)) ≡ page)
    × (later_pages (pages_of end (made ++ rest)) ≡ pages_of end rest)

-- a page was read behind what was made before; of a job that is over nothing more is read
pub record IsRead (printer : Printer) (panel : Panel) (first now : SourceState) (taken : List Made)
    (old new : Following) (page : MadePage) : Type 0 where
  pub made : List Made
  pub followed : HasFollowed printer panel first now (taken ++ made) new
  pub front : (rest : List Made) (end : ℕ) → MayCome new rest end → IsFront end page made rest
  pub stays : is_over old ≡ true → (made ≡ []) × (new ≡ old)

abbrev pub ReadsPage : (now now' : SourceState) → (old new : Following) → MadePage → Type 0
ReadsPage now now' old new page =
    (printer : Printer) (panel : Panel) (first : SourceState) (taken : List Made) →
    HasFollowed printer panel first now taken old → IsRead printer panel first now' taken old new page

-- what was made since the page began is on it, and it goes on
pub record Collects (printer : Printer) (panel : Panel) (first now : SourceState) (taken : List Made) (new : Following)
    (page : MadePage) : Type 0 where
  pub made : List Made
  pub followed : HasFollowed printer panel first now (taken ++ made) new
  pub front : (rest : List Made) (end : ℕ) → pages_of end (made ++ rest) ≡ pages_from end page.marks rest
  pub unended : page.end ≡ None

-- ---- the pages so far

-- of the pages of two jobs those before this number are compared: this was kept of them, and so many were counted
abbrev pub AreCompared : Nearness → Most → (all rest : List (MadePage × MadePage)) → (page : ℕ) → Kept → Counts →
    Type 0
AreCompared nearness most all rest page kept counts =
    (pages_kept nearness 1 all (none_kept most) ≡ pages_kept nearness page rest kept)
    × (pages_counted all no_counts ≡ pages_counted rest counts)

-- whatever comes behind the pages of both jobs that were read
pub record PagesGo (nearness : Nearness) (most : Most) (printer : Printer) (panel : Panel)
    (old_first old_now new_first new_now : SourceState) (old new : Following) (page : ℕ) (kept : Kept) (counts : Counts)
    : Type 0 where
  pub old_taken : List Made
  pub new_taken : List Made
  pub old_followed : HasFollowed printer panel old_first old_now old_taken old
  pub new_followed : HasFollowed printer panel new_first new_now new_taken new
  pub so_far : (old_rest new_rest : List Made) (old_end new_end : ℕ) →
      MayCome old old_rest old_end → MayCome new new_rest new_end →
      AreCompared nearness most
      (paired old_end new_end (pages_of old_end (old_taken ++ old_rest)) (pages_of new_end (new_taken ++ new_rest)))
      (paired old_end new_end (pages_of old_end old_rest) (pages_of new_end new_rest)) page kept counts

-- so it is of two jobs of which nothing was read before
abbrev pub GoesOn : Nearness → Most → (old_now old_now' new_now new_now' : SourceState) →
    (old old' new new' : Following) → (page : ℕ) → Kept → Counts → Type 0
GoesOn nearness most old_now old_now' new_now new_now' old old' new new' page kept counts =
    (printer : Printer) (panel : Panel) (old_first new_first : SourceState) →
    HasFollowed printer panel old_first old_now [] old → HasFollowed printer panel new_first new_now [] new →
    PagesGo nearness most printer panel old_first old_now' new_first new_now' old' new' page kept counts

-- ---- all of it

-- what is right for every two jobs that may be by what was read of them
abbrev pub IsRight : Nearness → Most → (number : ℕ) → Printer → Panel →
    (old_first old_now new_first new_now : SourceState) → ToldPages → Type 0
IsRight nearness most number printer panel old_first old_now new_first new_now told =
    ByReads old_first old_now (λ old. ByReads new_first new_now (λ new.
    IsPageComparison nearness most number printer panel old new told))

-- Of two jobs that were followed so far NEW fails so, and OLD is carried out to its end from here: this is right,
-- whatever the relation is.
abbrev pub NewFailsRight : (old_now old_now' : SourceState) → (old : Following) → Failure → ToldPages → Type 0
NewFailsRight old_now old_now' old failure told =
    (nearness : Nearness) (most : Most) (number : ℕ) (printer : Printer) (panel : Panel)
    (old_first new_first new_now : SourceState) (new : Following) (old_taken new_taken : List Made) →
    HasFollowed printer panel old_first old_now old_taken old →
    HasFollowed printer panel new_first new_now new_taken new →
    old.run.number ≡ number → new.run.number ≡ number → failure_of new.run.progress ≡ Some failure →
    IsRight nearness most number printer panel old_first old_now' new_first new_now told

-- of two jobs of which nothing was read before
abbrev pub PagesCompare : Nearness → Most → (old_now old_now' new_now new_now' : SourceState) →
    (old new : Following) → ToldPages → Type 0
PagesCompare nearness most old_now old_now' new_now new_now' old new told =
    (printer : Printer) (panel : Panel) (number : ℕ) (old_first new_first : SourceState) →
    HasFollowed printer panel old_first old_now [] old → HasFollowed printer panel new_first new_now [] new →
    old.run.number ≡ number → new.run.number ≡ number →
    IsRight nearness most number printer panel old_first old_now' new_first new_now' told

-- ---- why there is no comparison

abbrev pub is_unread_error : Which → PagesError → Bool
is_unread_error which (UnreadJob unread) = is_unread_by which unread.which unread.error
is_unread_error which (TooManyMarks page) = false
is_unread_error which Memory = false

-- the result is that a read of this job failed
abbrev pub is_unread : {T : Type 0} → Which → Result T PagesError → Bool
is_unread which (Ok x) = false
is_unread which (Err error) = is_unread_error which error

-- the error is one of this job, or of none
abbrev pub IsOwnError : Which → PagesError → Type 0
IsOwnError which (UnreadJob unread) = unread.which ≡ which
IsOwnError which (TooManyMarks page) = page.which ≡ which
IsOwnError which Memory = Unit {0}

abbrev pub IsErrorOfPages : PagesError → Type 0
IsErrorOfPages (UnreadJob unread) = IsErrorOfJob unread.error
IsErrorOfPages (TooManyMarks page) = Unit {0}
IsErrorOfPages Memory = Unit {0}
