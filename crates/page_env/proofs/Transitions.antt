-- Items of two parts, and one of two transitions.
use Rattle.std.proofs.Common.{◌≡◌, Bool, true, false, cond, Result, Ok, Err, refl, ap, sym, ◌∙◌}
use Rattle.device_profile.specs.declared.panel.Panel.{Panel}
use Rattle.page_env.specs.declared.change.Carried.{Carried}
use Rattle.page_env.specs.declared.finding.Finding.{Finding}
use Rattle.page_env.specs.declared.finding.Finding.TheVariants.{Unset}
use Rattle.page_env.specs.declared.motion.LineTermination.{LineTermination}
use Rattle.device_profile.specs.declared.field.Field.{Field}
use Rattle.page_env.specs.declared.page.Page.{Page}
use Rattle.page_env.specs.Settings.{Settings, State, fields_at, settings_at, state_at}
use Rattle.page_env.specs.Effect.{Effect, Fails, effect_of, unset_or, ReadsFields, Transition, Behind}
use Rattle.page_env.specs.Motion.{carriage_return, before_feed, termination_of, line_termination, line_termination_reads}
use Rattle.std.specs.Result.{IsErrAnd}
use Rattle.page_env.specs.Answers.{CarriesOut, Changes, Moves}

-- what comes before an item may move the page, but changes no setting
module _ (act : State → State) (keeps : (s : State) → (act s).settings ≡ s.settings) (old mid : Page) (moves : Moves act old mid) where
  pub moved : (panel : Panel) → act (state_at panel old) ≡ state_at panel mid
  unfolding Changes
  moved panel = moves old.env panel

  same_settings : (panel : Panel) → settings_at panel old.env ≡ settings_at panel mid.env
  same_settings panel = sym (keeps (state_at panel old)) ∙ ap (λ s. s.settings) (moved panel)

  pub carries_after : (transition : Settings → State → Transition) (new : Page) (r : Result Carried Finding) →
      CarriesOut transition mid new r → CarriesOut (λ defaults s. transition defaults (act s)) old new r
  unfolding CarriesOut
  carries_after transition new r h = λ panel defaults.
      ap (λ x. effect_of x (transition defaults (act (state_at panel old)))) (same_settings panel)
      ∙ ap (λ s. effect_of (settings_at panel mid.env) (transition defaults s)) (moved panel)
      ∙ h panel defaults

-- one of two transitions
module _ (settings : Settings) (m n : Transition) (e : Effect) where
  pub either_transition : (b : Bool) → effect_of settings m ≡ e → effect_of settings n ≡ e → effect_of settings (cond b m n) ≡ e
  either_transition true h k = h
  either_transition false h k = k

  pub first_transition : (b : Bool) → b ≡ true → effect_of settings m ≡ e → effect_of settings (cond b m n) ≡ e
  first_transition b is h = ap (λ x. effect_of settings (cond x m n)) is ∙ h

  pub second_transition : (b : Bool) → b ≡ false → effect_of settings n ≡ e → effect_of settings (cond b m n) ≡ e
  second_transition b is h = ap (λ x. effect_of settings (cond x m n)) is ∙ h

-- a return, or none, changes no setting
pub before_keeps : (termination : LineTermination) (s : State) → (before_feed termination s).settings ≡ s.settings
before_keeps termination s = kept termination.returns_at_feed
  where
    kept : (b : Bool) → (cond b (carriage_return s) s).settings ≡ s.settings
    kept true = refl
    kept false = refl

-- ---- behind the step that reads line termination

module _ (old : Page) (transition : LineTermination → State → Transition) where
  abbrev Read : Result LineTermination Field → Type 0
  Read read = ReadsFields old.env line_termination_reads (λ panel. termination_of (fields_at panel old.env.fields).line_termination) read

  -- where it is known, what is carried out with it
  pub carries_behind : (termination : LineTermination) (new : Page) (r : Result Carried Finding) → Read (Ok termination)
      → CarriesOut (λ defaults s. transition termination s) old new r
      → CarriesOut (λ defaults s. Behind line_termination_reads (transition (line_termination s) s)) old new r
  unfolding CarriesOut
  carries_behind termination new r read h = λ panel defaults.
      let s : State = state_at panel old in
      ap (λ unset. unset_or unset (effect_of s.settings (transition (line_termination s) s))) ((read panel).0)
      ∙ ap (λ t. effect_of s.settings (transition t s)) ((read panel).1)
      ∙ h panel defaults

  -- where the panel has it, the finding
  pub unset_behind : (field : Field) (new : Page) (r : Result Carried Finding) → Read (Err field) →
      IsErrAnd r (λ finding. finding ≡ Unset field)
      → CarriesOut (λ defaults s. Behind line_termination_reads (transition (line_termination s) s)) old new r
  unfolding CarriesOut
  unset_behind field new (Err finding) read is = λ panel defaults.
      let s : State = state_at panel old in
      ap (λ unset. unset_or unset (effect_of s.settings (transition (line_termination s) s))) (read panel)
      ∙ ap Fails (sym is)
  unset_behind field new (Ok carried) read is = absurd is
