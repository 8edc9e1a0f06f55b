-- The pages of a job: the marks of each with the places of their items, and how it ends.
use Rattle.std.specs.Prelude.{ℕ, List, [], ◌∷◌, ◌++◌, map, Option, None, Some}
use Rattle.page_env.specs.declared.mark.PageEnd.{PageEnd}
use Rattle.page_env.specs.Mark.{Shape}
use Rattle.page_machine.specs.Event.{Event, Marked, Ended}
use Rattle.sinks.specs.Counts.{counted, counts_after}
use Rattle.sinks.specs.declared.counts.Counts.{Counts}
use Rattle.sinks.specs.Owned.{shape_of_owned}
use Rattle.comparison.specs.Comparison.{Made}
use Rattle.page_comparison.specs.declared.page.Page.{Page}
use Rattle.page_comparison.specs.declared.page.PagePair.{PagePair}
use Rattle.page_comparison.specs.declared.page.PlacedMark.{PlacedMark}

-- a mark, and where the item stands that made it
pub record MadeMark : Type 0 where
  pub place : ℕ
  pub shape : Shape

-- A page: its marks in their order, the values with which it ends, and where the item stands that ends it. Marks behind
-- the last end of a page are a page without an end, which ends where the job does.
pub record MadePage : Type 0 where
  pub marks : List MadeMark
  pub end : Option PageEnd
  pub place : ℕ

-- ---- as they are kept

abbrev pub made_mark : {A : Type 0} → PlacedMark A → MadeMark
made_mark kept = record { place = kept.place; shape = shape_of_owned kept.mark }

abbrev pub made_marks : {A : Type 0} → List (PlacedMark A) → List MadeMark
made_marks kept = map made_mark kept

abbrev pub made_page : {A : Type 0} → Page A → MadePage
made_page page = record { marks = made_marks page.marks.items; end = page.end; place = page.place }

-- a page of two jobs by its number
pub record MadePair : Type 0 where
  pub number : ℕ
  pub old : MadePage
  pub new : MadePage

abbrev pub pair_at : ℕ → MadePage → MadePage → MadePair
pair_at number old new = record { number = number; old = old; new = new }

abbrev pub made_pair : {A : Type 0} → PagePair A → MadePair
made_pair pair = pair_at pair.number (made_page pair.old) (made_page pair.new)

-- ---- the pages of a job

-- a page that a job does not have, which ends at this place
abbrev pub no_page : ℕ → MadePage
no_page end = record { marks = []; end = None; place = end }

abbrev pub last_page : ℕ → List MadeMark → List MadePage
last_page end [] = []
last_page end (mark ∷ marks) = record { marks = mark ∷ marks; end = None; place = end } ∷ []

abbrev pub by_event : {X : Type 0} → (Shape → X) → (PageEnd → X) → Event → X
by_event of_mark of_end (Marked shape) = of_mark shape
by_event of_mark of_end (Ended end) = of_end end

-- the pages of what is made, where the page that is open has these marks, of a job that ends at this place
abbrev pub pages_from : ℕ → List MadeMark → List Made → List MadePage
pages_from end marks [] = last_page end marks
pages_from end marks (made ∷ rest) =
    by_event (λ shape. pages_from end (marks ++ record { place = made.place; shape = shape } ∷ []) rest)
    (λ values. record { marks = marks; end = Some values; place = made.place } ∷ pages_from end [] rest)
    made.event

abbrev pub pages_of : ℕ → List Made → List MadePage
pages_of end made = pages_from end [] made

-- ---- side by side

-- the pages of two jobs that end at these places; of the shorter one those that it does not have
abbrev pub paired : (old_end new_end : ℕ) → List MadePage → List MadePage → List (MadePage × MadePage)
paired old_end new_end [] new = map (λ page. (no_page old_end, page)) new
paired old_end new_end (a ∷ old) [] = map (λ page. (page, no_page new_end)) (a ∷ old)
paired old_end new_end (a ∷ old) (b ∷ new) = (a, b) ∷ paired old_end new_end old new

-- ---- how many there are

abbrev pub end_counted : Option PageEnd → Counts → Counts
end_counted None counts = counts
end_counted (Some values) counts = counted (Ended values) counts

abbrev pub shapes_of : List MadeMark → List Shape
shapes_of marks = map (λ mark. mark.shape) marks

abbrev pub page_counted : MadePage → Counts → Counts
page_counted page counts = end_counted page.end (counts_after (map Marked (shapes_of page.marks)) counts)

-- the counts behind these pages of OLD
abbrev pub pages_counted : List (MadePage × MadePage) → Counts → Counts
pages_counted [] counts = counts
pages_counted (pair ∷ pairs) counts = pages_counted pairs (page_counted pair.0 counts)
