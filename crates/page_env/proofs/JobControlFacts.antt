-- Facts of job control.
use Rattle.std.proofs.Common.{true, refl, arith, ◌≤◌}
use Rattle.pcl_items.specs.Escapes.Value.{Amount}
use Rattle.device_profile.specs.Printer.{Printer}
use Rattle.page_env.specs.Settings.{Settings, State}
use Rattle.page_env.specs.Effect.{checking, Closes}
use Rattle.page_env.specs.JobControl.{sides_checks, set_sides, reset}
use Rattle.page_env.specs.Sound.{plain_settings, plain_state, IsSoundTransition}
use Rattle.page_env.proofs.Sound.{quiet, calm, checks_are_sound}

empty_has_room : 0 ≤ 20
empty_has_room = omega arith

module _ (printer : Printer) (defaults : Settings) (s : State) where
  pub sides_are_sound : (n : Amount) →
      IsSoundTransition printer defaults s (Closes (checking s (sides_checks printer n)) true (λ t. set_sides t n))
      (Closes (checking (plain_state s) (sides_checks printer n)) true (λ t. set_sides t n))
  sides_are_sound n = (checks_are_sound s (sides_checks printer n) refl, calm (λ t. refl) (λ t. refl) (λ t. refl) (λ t. refl), refl)

  pub reset_is_sound : IsSoundTransition printer defaults s (reset defaults s) (reset (plain_settings defaults) (plain_state s))
  reset_is_sound = (
    quiet refl refl refl refl refl refl refl refl,
    record {
      same = λ t. refl;
      room = λ t h. empty_has_room;
      keeps = λ e. absurd cc;
      page = λ pairs begun none t h. begun;
    },
    refl,
  )
