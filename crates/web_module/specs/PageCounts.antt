-- What tells how many pages a job has.
use Rattle.std.specs.Prelude.{◌≡◌, ◌-◌, ◌^◌, ℕ, List, [], Some, codes, false, ⊤}
use Rattle.foreign_calls.specs.declared.why.Why.{Why}
use Rattle.foreign_calls.specs.declared.why.Why.TheVariants.{Stopped, Refused}
use Rattle.foreign_calls.specs.Answers.{IsWhyOf}
use Rattle.named_inputs.specs.Fleet.{IsNamed}
use Rattle.picture_command.specs.Picture.{BeforeAndAfter, IsNamedBy, LeavesPicture}
use Rattle.requests.specs.declared.selection.DrawnPages.TheVariants.{One}
use Rattle.requests.specs.declared.selection.Selection.{Selection}
use Rattle.requests.specs.declared.status.Status.TheVariants.{Fail}

-- a page that no job has
abbrev pub behind_all : Selection
behind_all = record { pages = One (2 ^ 64 - 1); has_boxes = false }

-- what the command `picture` tells that draws that page from the first panel, of a job and the text of a profile that
-- are known
pub record IsPageCount (profile job told : List ℕ) : Type 0 where
  pub given_before : List (List ℕ)
  pub given_after : List (List ℕ)
  pub a : BeforeAndAfter
  pub left : LeavesPicture Fail
      (IsNamedBy given_before given_after (IsNamed (Some profile) given_before given_after)) [] behind_all
      (codes "job") a
  pub first_is : a.first.remaining ≡ Some job
  pub second_is : a.second.remaining ≡ Some job
  pub untold : a.err.taken ≡ []
  pub told_is : a.err'.taken ≡ told

-- why it tells nothing
abbrev pub MayCount : (profile : List ℕ) → Why → Type 0
MayCount profile (Stopped error) = ⊤
MayCount profile (Refused number line cause) = IsWhyOf 1 profile (Refused number line cause)
MayCount profile _ = ⊥
