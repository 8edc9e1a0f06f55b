-- Facts of HP-GL/2 frames.
use Rattle.std.proofs.Common.{refl}
use Rattle.pcl_items.specs.declared.frame.Handover.{Handover}
use Rattle.pcl_items.specs.declared.frame.Handover.TheVariants.{Previous, Current}
use Rattle.pcl_items.specs.Escapes.Value.{Amount}
use Rattle.device_profile.specs.Printer.{Printer}
use Rattle.page_env.specs.Settings.{State}
use Rattle.page_env.specs.Effect.{moving}
use Rattle.page_env.specs.Frames.{set_frame_anchor, enter_frame, leave_at_pen, leave_frame}
use Rattle.page_env.specs.Sound.{plain_state, IsSound}
use Rattle.page_env.proofs.Sound.{quiet, either_line, page_rises, vertical_rises, page_and_vertical_rise}

module _ (printer : Printer) (s : State) where
  pub anchor_is_sound : (n : Amount) → IsSound printer s (set_frame_anchor s n) (set_frame_anchor (plain_state s) n)
  anchor_is_sound n = quiet (vertical_rises s.cursor.y) refl refl refl refl refl refl refl

  pub enter_is_sound : (handover : Handover) →
      IsSound printer s (enter_frame printer s handover) (enter_frame printer (plain_state s) handover)
  enter_is_sound Previous = quiet refl refl refl refl refl refl refl refl
  enter_is_sound Current = quiet (page_and_vertical_rise s.cursor.y) refl refl refl refl refl refl refl

  at_pen_is_sound : IsSound printer s (leave_at_pen printer s) (leave_at_pen printer (plain_state s))
  at_pen_is_sound = quiet page_rises refl refl refl refl refl refl refl

  unmoved_is_sound : IsSound printer s (moving s) (moving (plain_state s))
  unmoved_is_sound = quiet refl refl refl refl refl refl refl refl

  pub leave_is_sound : (handover : Handover) →
      IsSound printer s (leave_frame printer s handover) (leave_frame printer (plain_state s) handover)
  leave_is_sound Previous = quiet refl refl refl refl refl refl refl refl
  leave_is_sound Current =
      either_line s.in_frame s (leave_at_pen printer s) (moving s) (leave_at_pen printer (plain_state s))
      (moving (plain_state s)) at_pen_is_sound unmoved_is_sound
