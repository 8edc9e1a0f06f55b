-- What a move of the pen draws.
use Rattle.std.proofs.Common.{◌≡◌, ℕ, ℤ, Bool, true, false, not, cond, Option, Some, None, Result, refl, sym, ap, subst, ◌∙◌}
use Rattle.device_profile.specs.declared.geometry.Geometry.{Geometry}
use Rattle.device_profile.specs.Printer.{Printer}
use Rattle.page_env.specs.declared.finding.Finding.{Finding}
use Rattle.page_env.specs.declared.finding.Finding.TheVariants.{NotPrintable, OutsideFrame}
use Rattle.page_env.specs.declared.frames.Frame.{Frame}
use Rattle.page_env.specs.declared.mark.PenLine.{PenLine}
use Rattle.page_env.specs.declared.page.Page.{Page}
use Rattle.page_env.specs.declared.page.PenPlace.{PenPlace}
use Rattle.page_env.specs.declared.places.Origin.{Origin}
use Rattle.page_env.specs.Settings.{settings_at, state_at}
use Rattle.page_env.specs.Mark.{lines_of, line_bounds, is_inside}
use Rattle.page_env.specs.Effect.{first_finding, effect_of, Step}
use Rattle.page_env.specs.Pens.{line_between, stays_in_frame, line_checks, draw, pen_target, carry_pen, move_pen}
use Rattle.page_env.specs.Answers.{Marks}
use Rattle.page_env.proofs.TextJudging.{taken_is}

-- it draws where the pen is down
pub move_draws : (printer : Printer) (to : ℤ × ℤ) (place : PenPlace) (old new : Page) (result : Result (Option PenLine) Finding) →
    old.env.job.pen.is_down ≡ true → place ≡ pen_target old.env.job.pen to → Marks lines_of (λ s. draw printer s place) old new result →
    Marks lines_of (λ s. move_pen printer s to) old new result
unfolding Marks
move_draws printer to place old new result down same h = (
  λ panel.
      let s = state_at panel old in
      let target = pen_target old.env.job.pen to in
      ap (λ b. effect_of (settings_at panel old.env) (Step (cond b (draw printer s target) (carry_pen s target)))) down
      ∙ ap (λ p. effect_of (settings_at panel old.env) (Step (draw printer s p))) (sym same)
      ∙ h.0 panel,
  h.1,
)

passes : {X Y : Type 0} (b c : Bool) (x taken_x : X) (y taken_y : Y) → Some taken_x ≡ cond b (Some x) None →
    Some taken_y ≡ cond c (Some y) None →
    (taken_x ≡ x) × (taken_y ≡ y) × (cond (not b) (Some NotPrintable) (cond (not c) (Some OutsideFrame) None) ≡ None)
passes true true x taken_x y taken_y e f = (taken_is true x taken_x e, taken_is true y taken_y f, refl)
passes true false x taken_x y taken_y e f = absurd cc
passes false c x taken_x y taken_y e f = absurd cc

-- a line that lies in the printable area and stays in its frame is the one that is drawn, and nothing is found of it
pub line_passes : (g : Geometry) (origin : Origin) (frame : Frame) (width : ℕ) (here start to place : PenPlace) (line : PenLine) →
    start ≡ here →
    Some line
    ≡ cond (is_inside g (line_bounds (line_between origin frame width start to))) (Some (line_between origin frame width start to)) None →
    Some place ≡ cond (stays_in_frame frame start to) (Some to) None →
    (line ≡ line_between origin frame width here to) × (place ≡ to) × (first_finding (line_checks g origin frame width here to) ≡ None)
line_passes g origin frame width here start to place line same e f =
    subst
    (λ p. (line ≡ line_between origin frame width p to) × (place ≡ to) × (first_finding (line_checks g origin frame width p to) ≡ None))
    same
    (passes (is_inside g (line_bounds (line_between origin frame width start to))) (stays_in_frame frame start to)
    (line_between origin frame width start to) line to place e f)
