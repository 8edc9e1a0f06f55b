-- Moves of the pen in a box, one behind another.
use Rattle.std.specs.Prelude.{◌≡◌, ℕ, ℤ, Bool, true, false, cond, ◌&&◌, Option, None, Some, List, [], ◌∷◌, ◌++◌, length}
use Rattle.device_profile.specs.declared.panel.Panel.{Panel}
use Rattle.device_profile.specs.declared.geometry.Geometry.{Geometry}
use Rattle.device_profile.specs.Printer.{Printer}
use Rattle.pcl_items.specs.declared.frame.Motion.{Motion}
use Rattle.pcl_items.specs.declared.frame.Motion.TheVariants.{Up, Down, Absolute, Relative}
use Rattle.page_env.specs.declared.frames.Frame.{Frame}
use Rattle.page_env.specs.declared.mark.PenLine.{PenLine}
use Rattle.page_env.specs.declared.page.Page.{Page}
use Rattle.page_env.specs.declared.page.Pen.{Pen}
use Rattle.page_env.specs.declared.page.PenPlace.{PenPlace}
use Rattle.page_env.specs.declared.places.Origin.{Origin}
use Rattle.page_env.specs.declared.plot.PenBounds.{PenBounds}
use Rattle.page_env.specs.Settings.{settings_at, state_at}
use Rattle.page_env.specs.Mark.{Line, Shape}
use Rattle.page_env.specs.Effect.{Goes, Step, effect_of, first_finding}
use Rattle.page_env.specs.Places.{is_between}
use Rattle.page_env.specs.Pens.{draw, is_too_far, line_checks, pen_target}

-- a place of the frame lies in the box
abbrev pub lies_within : PenBounds → PenPlace → Bool
lies_within box place = is_between box.low.x box.high.x place.x && is_between box.low.y box.high.y place.y

-- the checks of each line between two places of the box pass
abbrev pub LinesGo : Geometry → Origin → Frame → ℕ → PenBounds → Type 0
LinesGo g origin frame width box =
    (from to : PenPlace) → lies_within box from ≡ true → lies_within box to ≡ true →
    first_finding (line_checks g origin frame width from to) ≡ None

-- the pen of a page, up or down, with coordinates from where it is or not, at a place
abbrev pub pen_at : (is_down is_relative : Bool) → PenPlace → Page → Pen
pen_at is_down is_relative place page =
    record page.env.job.pen { is_down = is_down; is_relative = is_relative; place = place }

-- a page with this pen, marked or not
abbrev pub page_with : Pen → Bool → Page → Page
page_with pen marked page =
    record page { env = record page.env { job = record page.env.job { pen = pen } }; marked = marked }

-- From one place of a page to another the pen, however it was, draws this line, whatever the panel.
abbrev pub DrawsLine : Printer → Page → PenPlace → PenPlace → PenLine → Type 0
DrawsLine printer page from target line =
    (panel : Panel) (is_down is_relative marked : Bool) →
    let here = page_with (pen_at is_down is_relative from page) marked page in
    effect_of (settings_at panel here.env) (Step (draw printer (state_at panel here) target))
    ≡ Goes (state_at panel (page_with (pen_at true is_relative target page) true page)) (Line line ∷ [])

-- The pen is at one place of the box, and draws a line between any two places of it. No place of it is too far.
pub record DrawsWithin (printer : Printer) (page : Page) (box : PenBounds) : Type 0 where
  pub no_raster : page.raster ≡ None
  pub inside : lies_within box page.env.job.pen.place ≡ true
  pub near : (place : PenPlace) → lies_within box place ≡ true → is_too_far place ≡ false
  pub line : PenPlace → PenPlace → PenLine
  pub draws : (from target : PenPlace) → lies_within box from ≡ true → lies_within box target ≡ true →
      DrawsLine printer page from target (line from target)

-- ---- a command that moves the pen

-- the pen as the own step of the command leaves it
abbrev pub turned : Motion → Pen → Pen
turned Up pen = record pen { is_down = false }
turned Down pen = record pen { is_down = true }
turned Absolute pen = record pen { is_relative = false }
turned Relative pen = record pen { is_relative = true }

-- where the pen is behind the command, with these coordinates or none
abbrev pub led : Pen → Option (ℤ × ℤ) → PenPlace
led pen None = pen.place
led pen (Some to) = pen_target pen to

-- a raised pen that is lowered marks a dot
abbrev pub dots : (PenPlace → PenPlace → PenLine) → Motion → Pen → List Shape
dots line Up pen = []
dots line Down pen = cond pen.is_down [] (Line (line pen.place pen.place) ∷ [])
dots line Absolute pen = []
dots line Relative pen = []

-- with the pen down its coordinates mark a line
abbrev pub lines_to : (PenPlace → PenPlace → PenLine) → Pen → Option (ℤ × ℤ) → List Shape
lines_to line pen None = []
lines_to line pen (Some to) = cond pen.is_down (Line (line pen.place (pen_target pen to)) ∷ []) []

-- whether a page is marked behind these marks
abbrev pub marked_by : List Shape → Bool → Bool
marked_by [] marked = marked
marked_by (shape ∷ shapes) marked = true

-- what is marked behind both of its steps
abbrev pub marks_both : List Shape → List Shape → Bool → Bool
marks_both dots lines marked = marked_by lines (marked_by dots marked)

-- such a command leads to this page, with so many marks, wherever its lines lie
pub record DrawsTo (box : PenBounds) (motion : Motion) (to : Option (ℤ × ℤ)) (marks : ℕ) (old new : Page) : Type 0 where
  pub inside : lies_within box (led (turned motion old.env.job.pen) to) ≡ true
  pub count : (line : PenPlace → PenPlace → PenLine) →
      length (dots line motion old.env.job.pen ++ lines_to line (turned motion old.env.job.pen) to) ≡ marks
  pub page : (line : PenPlace → PenPlace → PenLine) →
      let pen = turned motion old.env.job.pen in
      new
      ≡ page_with (record pen { place = led pen to })
      (marks_both (dots line motion old.env.job.pen) (lines_to line pen to) old.marked) old
