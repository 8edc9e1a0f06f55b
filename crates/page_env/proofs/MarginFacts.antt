-- Facts of margins.
use Rattle.std.proofs.Common.{refl}
use Rattle.pcl_items.specs.Escapes.Value.{Amount}
use Rattle.device_profile.specs.Printer.{Printer}
use Rattle.page_env.specs.Settings.{State}
use Rattle.page_env.specs.Margins.{set_top_margin, set_text_length, set_left_margin, set_right_margin}
use Rattle.page_env.specs.Sound.{plain_state, IsSound}
use Rattle.page_env.proofs.Sound.{quiet, page_and_line_rises, columns_rise}

module _ (printer : Printer) (s : State) where
  pub top_margin_is_sound : (n : Amount) → IsSound printer s (set_top_margin printer s n) (set_top_margin printer (plain_state s) n)
  top_margin_is_sound n = quiet page_and_line_rises refl refl refl refl refl refl refl

  pub text_length_is_sound : (n : Amount) → IsSound printer s (set_text_length printer s n) (set_text_length printer (plain_state s) n)
  text_length_is_sound n = quiet page_and_line_rises refl refl refl refl refl refl refl

  pub left_margin_is_sound : (n : Amount) → IsSound printer s (set_left_margin printer s n) (set_left_margin printer (plain_state s) n)
  left_margin_is_sound n = quiet (columns_rise s.settings.job) refl refl refl refl refl refl refl

  pub right_margin_is_sound : (n : Amount) → IsSound printer s (set_right_margin printer s n) (set_right_margin printer (plain_state s) n)
  right_margin_is_sound n = quiet (columns_rise s.settings.job) refl refl refl refl refl refl refl
