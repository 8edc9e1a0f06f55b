-- Facts of motion and line ends.
use Rattle.std.proofs.Common.{◌≡◌, Bool, true, false, cond, refl}
use Rattle.device_profile.specs.Printer.{Printer}
use Rattle.page_env.specs.declared.motion.Feed.{Feed}
use Rattle.page_env.specs.declared.motion.Feed.TheVariants.{Line as WholeLine, HalfLine}
use Rattle.page_env.specs.Settings.{Settings, State}
use Rattle.page_env.specs.Effect.{moving, reading, Step, Closes}
use Rattle.page_env.specs.Motion.{line_termination, at_home, fed_to, is_past_bottom, feed_down, feed_by, half_line_feed, carriage_return}
use Rattle.page_env.specs.Motion.{return_line, line_feed, form_feed}
use Rattle.page_env.specs.Places.{page_and_line_reads}
use Rattle.page_env.specs.Sound.{plain_state, IsSound, IsSoundTransition}
use Rattle.page_env.proofs.Sound.{quiet, calm, from_there, either, page_and_line_rises}

module _ (printer : Printer) (defaults : Settings) where
  -- a feed from where a return led, or from where none did
  feed_is_sound : (by : Feed) (s t : State) → t.marked ≡ s.marked → t.settings ≡ s.settings → t.stack ≡ s.stack →
      IsSoundTransition printer defaults s (feed_by printer t by) (feed_by printer (plain_state t) by)
  feed_is_sound by s t marked settings stack =
      either printer defaults (is_past_bottom printer t (fed_to t by)) s (Closes (reading t page_and_line_reads) false at_home)
      (Step (feed_down printer t (fed_to t by))) (Closes (reading (plain_state t) page_and_line_reads) false at_home)
      (Step (feed_down printer (plain_state t) (fed_to t by))) (
        from_there s t _ _ marked settings stack (quiet page_and_line_rises refl refl refl refl refl refl refl),
        calm (λ u. refl) (λ u. refl) (λ u. refl) (λ u. refl),
        refl,
      )
      (from_there s t _ _ marked settings stack (quiet page_and_line_rises refl refl refl refl refl refl refl))

  fed_after_return : (b : Bool) (s : State) →
      IsSoundTransition printer defaults s (feed_by printer (cond b (carriage_return s) s) WholeLine)
      (feed_by printer (cond b (carriage_return (plain_state s)) (plain_state s)) WholeLine)
  fed_after_return true s = feed_is_sound WholeLine s (carriage_return s) refl refl refl
  fed_after_return false s = feed_is_sound WholeLine s s refl refl refl

  ended_after_return : (b : Bool) (s : State) →
      IsSound printer s (moving (cond b (carriage_return s) s)) (moving (cond b (carriage_return (plain_state s)) (plain_state s)))
  ended_after_return true s = quiet refl refl refl refl refl refl refl refl
  ended_after_return false s = quiet refl refl refl refl refl refl refl refl

  pub half_line_feed_is_sound : (s : State) →
      IsSoundTransition printer defaults s (half_line_feed printer s) (half_line_feed printer (plain_state s))
  half_line_feed_is_sound s = feed_is_sound HalfLine s s refl refl refl

  pub line_feed_is_sound : (s : State) → IsSoundTransition printer defaults s (line_feed printer s) (line_feed printer (plain_state s))
  line_feed_is_sound s = (refl, fed_after_return (line_termination s).returns_at_feed s)

  pub form_feed_is_sound : (s : State) → IsSoundTransition printer defaults s (form_feed s) (form_feed (plain_state s))
  form_feed_is_sound s = (refl, ended_after_return (line_termination s).returns_at_feed s)

  pub return_is_sound : (s : State) → IsSoundTransition printer defaults s (return_line printer s) (return_line printer (plain_state s))
  return_is_sound s = (
    refl,
    either printer defaults (line_termination s).feeds_at_return s (feed_by printer (carriage_return s) WholeLine)
        (Step (moving (carriage_return s))) (feed_by printer (carriage_return (plain_state s)) WholeLine)
        (Step (moving (carriage_return (plain_state s))))
        (feed_is_sound WholeLine s (carriage_return s) refl refl refl)
        (quiet refl refl refl refl refl refl refl refl),
  )
