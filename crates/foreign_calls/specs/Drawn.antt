-- What a call hands out that draws a page.
use Rattle.std.specs.Prelude.{◌≡◌, ◌==◌, ◌⊎◌, ℕ, List, [], Some, false, if◌then◌else◌, ⊤}
use Rattle.named_inputs.specs.Fleet.{IsNamed}
use Rattle.picture_command.specs.Picture.{BeforeAndAfter, IsNamedBy, LeavesPicture}
use Rattle.requests.specs.declared.selection.DrawnPages.TheVariants.{All, One}
use Rattle.requests.specs.declared.selection.Selection.{Selection}
use Rattle.requests.specs.declared.status.Status.{Status}
use Rattle.requests.specs.declared.status.Status.TheVariants.{Pass, Fail}
use Rattle.foreign_calls.specs.declared.why.Why.{Why}
use Rattle.foreign_calls.specs.declared.why.Why.TheVariants.{Stopped, Refused, NoPage, NotText}
use Rattle.foreign_calls.specs.Answers.{IsWhyOf}

-- the page of this number by itself, or all for 0; without the boxes of characters
abbrev pub selected : (page : ℕ) → Selection
selected page = record { pages = if page == 0 then All else One page; has_boxes = false }

-- What the command `picture` leaves that ends by this status, where it reads a job and the text of a profile that are
-- known, draws from the first panel and writes this on standard output.
pub record Draws (profile name job : List ℕ) (page : ℕ) (status : Status) (drawn : List ℕ) : Type 0 where
  pub given_before : List (List ℕ)
  pub given_after : List (List ℕ)
  pub a : BeforeAndAfter
  pub left : LeavesPicture status
      (IsNamedBy given_before given_after (IsNamed (Some profile) given_before given_after)) [] (selected page) name a
  pub first_is : a.first.remaining ≡ Some job
  pub second_is : a.second.remaining ≡ Some job
  pub unwritten : a.out.taken ≡ []
  pub drawn_is : a.out'.taken ≡ drawn

-- pages are drawn, of a job that passes them or fails on them
abbrev pub IsPicture : (profile name job : List ℕ) → (page : ℕ) → (drawn : List ℕ) → Type 0
IsPicture profile name job page drawn =
    Draws profile name job page Pass drawn ⊎ Draws profile name job page Fail drawn

-- why nothing is drawn
abbrev pub MayDraw : (profile name job : List ℕ) → (page : ℕ) → Why → Type 0
MayDraw profile name job page (Stopped error) = ⊤
MayDraw profile name job page (Refused number line cause) = IsWhyOf 1 profile (Refused number line cause)
MayDraw profile name job page NotText = ⊤
MayDraw profile name job page NoPage = Draws profile name job page Fail []
MayDraw profile name job page _ = ⊥
