-- Facts of the pen.
use Rattle.std.proofs.Common.{◌≡◌, ℕ, ℤ, Bool, true, false, not, cond, Some, None, refl}
use Rattle.pcl_items.specs.declared.frame.Motion.{Motion}
use Rattle.pcl_items.specs.declared.frame.Motion.TheVariants.{Up, Down, Absolute, Relative}
use Rattle.pcl_items.specs.declared.frame.Setting.{Setting}
use Rattle.pcl_items.specs.declared.frame.Setting.TheVariants as settings
use Rattle.device_profile.specs.Printer.{Printer}
use Rattle.page_env.specs.declared.finding.Finding.TheVariants.{NotPrintable, OutsideFrame}
use Rattle.page_env.specs.declared.page.Pen.{Pen}
use Rattle.page_env.specs.declared.page.PenPlace.{PenPlace}
use Rattle.page_env.specs.Settings.{State}
use Rattle.page_env.specs.Places.{geometry_of, origin_of}
use Rattle.page_env.specs.Mark.{line_bounds, is_inside}
use Rattle.page_env.specs.Effect.{moving}
use Rattle.page_env.specs.Frames.{frame_of}
use Rattle.page_env.specs.Pens.{set_pen, line_between, stays_in_frame, draw, motion_step, pen_target, carry_pen, move_pen}
use Rattle.page_env.specs.Sound.{plain_state, IsSound, IsSoundMove}
use Rattle.page_env.proofs.Sound.{quiet, either_line, page_rises}

-- a line of which nothing is found lies in the printable area
drawn_inside : (inside within : Bool) → cond (not inside) (Some NotPrintable) (cond (not within) (Some OutsideFrame) None) ≡ None →
    inside ≡ true
drawn_inside true within none = refl
drawn_inside false within none = absurd cc

module _ (printer : Printer) (s : State) where
  pub setting_is_sound : (setting : Setting) (n : ℕ) → IsSound printer s (set_pen s setting n) (set_pen (plain_state s) setting n)
  setting_is_sound settings.Pen n = quiet refl refl refl refl refl refl refl refl
  setting_is_sound settings.Width n = quiet refl refl refl refl refl refl refl refl

  draw_is_sound : (to : PenPlace) → IsSound printer s (draw printer s to) (draw printer (plain_state s) to)
  draw_is_sound to =
      let pen : Pen = s.settings.job.pen in
      let line = line_between (origin_of printer s) (frame_of printer s) pen.width pen.place to in
      record {
        same = refl;
        ordered = refl;
        reads_ordered = page_rises;
        unmarked = λ e. absurd cc;
        inside =
            λ none. (
              drawn_inside (is_inside (geometry_of printer s) (line_bounds line)) (stays_in_frame (frame_of printer s) pen.place to) none,
              tt,
            );
        size = refl;
        orientation = refl;
        room = λ none h. h;
      }

  carry_is_sound : (to : PenPlace) → IsSound printer s (carry_pen s to) (carry_pen (plain_state s) to)
  carry_is_sound to = quiet refl refl refl refl refl refl refl refl

  unmoved_is_sound : IsSound printer s (moving s) (moving (plain_state s))
  unmoved_is_sound = quiet refl refl refl refl refl refl refl refl

  pub motion_is_sound : (motion : Motion) → IsSound printer s (motion_step printer s motion) (motion_step printer (plain_state s) motion)
  motion_is_sound Up = quiet refl refl refl refl refl refl refl refl
  motion_is_sound Absolute = quiet refl refl refl refl refl refl refl refl
  motion_is_sound Relative = quiet refl refl refl refl refl refl refl refl
  motion_is_sound Down =
      let pen : Pen = s.settings.job.pen in
      either_line pen.is_down s (moving s) (draw printer s pen.place) (moving (plain_state s))
      (draw printer (plain_state s) pen.place) unmoved_is_sound (draw_is_sound pen.place)

  move_is_sound : (to : ℤ × ℤ) → IsSound printer s (move_pen printer s to) (move_pen printer (plain_state s) to)
  move_is_sound to =
      let pen : Pen = s.settings.job.pen in
      let target = pen_target pen to in
      either_line pen.is_down s (draw printer s target) (carry_pen s target) (draw printer (plain_state s) target)
      (carry_pen (plain_state s) target) (draw_is_sound target) (carry_is_sound target)

pub each_move_is_sound : (printer : Printer) (to : ℤ × ℤ) → IsSoundMove printer to
each_move_is_sound printer to = λ s. move_is_sound printer s to
