-- Facts of page control.
use Rattle.std.proofs.Common.{◌≡◌, Bool, true, false, not, cond, refl, ap}
use Rattle.std.specs.Prelude.{◌==◌}
use Rattle.pcl_items.specs.Escapes.Value.{Amount}
use Rattle.device_profile.specs.Printer.{Printer, has_size, has_orientation}
use Rattle.page_env.specs.declared.finding.Finding.TheVariants.{BadValue, NotOnDevice}
use Rattle.page_env.specs.Settings.{Settings, State, unwatched}
use Rattle.page_env.specs.Numbers.{is_whole_between, whole_of}
use Rattle.page_env.specs.Effect.{checking, Closes}
use Rattle.page_env.specs.PageControl.{source_checks, set_source, size_checks, set_size, orientation_checks, set_orientation}
use Rattle.page_env.specs.Sound.{plain_settings, plain_state, IsSoundTransition}
use Rattle.page_env.proofs.Sound.{calm, checks_are_sound}
use Rattle.page_env.proofs.Rows.{size_is_found, orientation_is_found, second_finds_nothing, was_true}

same_flag : (b : Bool) → cond b false false ≡ false
same_flag true = refl
same_flag false = refl

source-plain : (n : Amount) (t : State) → set_source (plain_state t) n ≡ plain_state (set_source t n)
source-plain n t =
    let u : State = plain_state (set_source t n) in
    ap (λ b. record u { settings = record u.settings { unset = record unwatched { tray = b } } }) (same_flag (whole_of n == 0))

module _ (printer : Printer) (defaults : Settings) (s : State) where
  pub source_is_sound : (n : Amount) →
      IsSoundTransition printer defaults s (Closes (checking s (source_checks printer n)) true (λ t. set_source t n))
      (Closes (checking (plain_state s) (source_checks printer n)) true (λ t. set_source t n))
  source_is_sound n = (checks_are_sound s (source_checks printer n) refl, calm (source-plain n) (λ t. refl) (λ t. refl) (λ t. refl), refl)

  pub size_is_sound : (n : Amount) →
      IsSoundTransition printer defaults s (Closes (checking s (size_checks printer n)) true (λ t. set_size t n))
      (Closes (checking (plain_state s) (size_checks printer n)) true (λ t. set_size t n))
  size_is_sound n = (
    checks_are_sound s (size_checks printer n) refl,
    record {
      same = λ t. refl;
      room = λ t h. h;
      keeps = λ e. absurd cc;
      page = λ pairs begun none t h.
          size_is_found printer.geometries pairs t.settings.fields.size (whole_of n) t.settings.fields.orientation
          (was_true (has_size printer.geometries (whole_of n))
          (second_finds_nothing (not (is_whole_between 1 999 n))
          (not (has_size printer.geometries (whole_of n))) BadValue NotOnDevice none))
          h;
    },
    refl,
  )

  pub orientation_is_sound : (n : Amount) →
      IsSoundTransition printer defaults s (Closes (checking s (orientation_checks printer n)) true (λ t. set_orientation defaults t n))
      (Closes (checking (plain_state s) (orientation_checks printer n)) true (λ t. set_orientation (plain_settings defaults) t n))
  orientation_is_sound n = (
    checks_are_sound s (orientation_checks printer n) refl,
    record {
      same = λ t. refl;
      room = λ t h. h;
      keeps = λ e. absurd cc;
      page = λ pairs begun none t h.
          orientation_is_found printer.geometries pairs t.settings.fields.size t.settings.fields.orientation (whole_of n)
          (was_true (has_orientation printer.geometries (whole_of n))
          (second_finds_nothing (not (is_whole_between 0 3 n))
          (not (has_orientation printer.geometries (whole_of n))) BadValue NotOnDevice none))
          h;
    },
    refl,
  )
