-- Two jobs while the same was read of both: one is carried out for both.
use Rattle.std.specs.Prelude.{◌≡◌, ℕ, List, [], ◌++◌, Option, None, Some, ⊤}
use Rattle.device_profile.specs.declared.panel.Panel.{Panel}
use Rattle.device_profile.specs.Printer.{Printer}
use Rattle.streams.specs.Source.{SourceState}
use Rattle.comparison.specs.declared.difference.Spot.{Spot}
use Rattle.comparison.specs.declared.stepping.Stepped.{Stepped}
use Rattle.comparison.specs.declared.stepping.Stepped.TheVariants.{On, More, AtEnd, FailsBy, Refused}
use Rattle.comparison.specs.Comparison.{Made, at_start}
use Rattle.comparison.specs.Comparing.{Following, GoAlike, events_made, spot_behind}
use Rattle.comparison.specs.Running.{HasRun, RunState, TakesRead}

-- ---- a job that counts what it makes

-- It made something more, whatever its source is, and the spot is behind that.
abbrev pub CountsOn : (old new : RunState) → (spot spot' : Spot) → Type 0
CountsOn old new spot spot' =
    (more : List Made) × (spot' ≡ spot_behind (events_made more) spot)
    × ((printer : Printer) (panel : Panel) (first now : SourceState) (made : List Made) →
    HasRun printer panel first now made old → HasRun printer panel first now (made ++ more) new)

-- so by a step; where memory was refused nothing is said
abbrev pub CountsBy : Stepped → (old new : RunState) → (spot spot' : Spot) → Type 0
CountsBy (On place) old new spot spot' = CountsOn old new spot spot'
CountsBy More old new spot spot' = CountsOn old new spot spot'
CountsBy AtEnd old new spot spot' = CountsOn old new spot spot'
CountsBy (FailsBy failure) old new spot spot' = CountsOn old new spot spot'
CountsBy Refused old new spot spot' = ⊤

-- ---- what one read more gave of both

-- the same, or each job takes its own
abbrev pub TakenOfBoth : (piece other : List ℕ) → (old new : RunState) → Option RunState → Type 0
TakenOfBoth piece other old new None = (piece ≡ other) × TakesRead piece old new
TakenOfBoth piece other old new (Some second) =
    TakesRead piece old new × TakesRead other old second × (second.events ≡ []) × (second.number ≡ old.number)

-- ---- for both

-- What was carried out came of both, and the spot is behind that.
pub record GoTogether (printer : Printer) (panel : Panel) (old_first old_now new_first new_now : SourceState)
    (run : RunState) (spot : Spot) : Type 0 where
  pub made : List Made
  pub old_run : HasRun printer panel old_first old_now made run
  pub new_run : HasRun printer panel new_first new_now made run
  pub spot_is : spot ≡ spot_behind (events_made made) at_start

-- They still go together, or each goes by itself from here on.
abbrev pub Stand : Option Following → Printer → Panel → (old_first old_now new_first new_now : SourceState) → RunState →
    Spot → Type 0
Stand None printer panel old_first old_now new_first new_now run spot =
    GoTogether printer panel old_first old_now new_first new_now run spot
Stand (Some following) printer panel old_first old_now new_first new_now run spot =
    GoAlike printer panel old_first old_now new_first new_now run spot following

-- from where they went together before
abbrev pub StandBehind : (old_now old_now' new_now new_now' : SourceState) → (run run' : RunState) →
    (spot spot' : Spot) → Option Following → Type 0
StandBehind old_now old_now' new_now new_now' run run' spot spot' parted =
    (printer : Printer) (panel : Panel) (old_first new_first : SourceState) →
    GoTogether printer panel old_first old_now new_first new_now run spot →
    Stand parted printer panel old_first old_now' new_first new_now' run' spot'
