-- What a finding leaves.
use Rattle.std.specs.Prelude.{◌≡◌, Bool, true, false, not, Result, Ok, Err}
use Rattle.device_profile.specs.declared.panel.Panel.{Panel}
use Rattle.pcl_items.specs.declared.pcl.command.Command.{Command}
use Rattle.pcl_items.specs.declared.pcl.command.Command.TheVariants.{Sides, Source, PageSize, Orientation, MacroControl}
use Rattle.pcl_items.specs.declared.pcl.command.DataCommand.TheVariants.{TransparentText}
use Rattle.pcl_items.specs.Items.{Entry, CarriageReturn, LineFeed, FormFeed, Reset, HalfLineFeed, Parameterized, Move}
use Rattle.pcl_items.specs.Items.{WithData, ExitLanguage}
use Rattle.page_env.specs.declared.finding.Finding.{Finding}
use Rattle.page_env.specs.declared.page.Page.{Page}
use Rattle.page_env.specs.Answers.{StandsStill}
use Rattle.page_env.specs.Settings.{settings_at}
use Rattle.page_machine.specs.MachineState.{MachineState}
use Rattle.page_machine.specs.declared.steps.Interruption.{Interruption}
use Rattle.page_machine.specs.declared.steps.Interruption.TheVariants.{Found, Refused}

-- a command that may close the page
abbrev pub may_close : Command → Bool
may_close Sides = true
may_close Source = true
may_close PageSize = true
may_close Orientation = true
may_close MacroControl = true
may_close _ = false

-- An item that is one step on the page: it closes none, runs no macro, prints no more than a mark, and moves no pen.
abbrev pub is_one_step : Entry → Bool
is_one_step CarriageReturn = false
is_one_step LineFeed = false
is_one_step FormFeed = false
is_one_step HalfLineFeed = false
is_one_step Reset = false
is_one_step ExitLanguage = false
is_one_step (Parameterized command n) = not (may_close command)
is_one_step (Move motion to) = false
is_one_step (WithData TransparentText bytes) = false
is_one_step _ = true

-- under each panel the settings and the cursor are as they were
abbrev pub StaysPut : Page → Page → Type 0
StaysPut old new = (panel : Panel) → (settings_at panel new.env ≡ settings_at panel old.env) × (new.cursor ≡ old.cursor)

-- A machine that stopped at a finding is that of its printer; and where it carried out one step, the page has the
-- settings and the cursor from before.
pub record StopsStill (one_step : Bool) (old new : MachineState) : Type 0 where
  pub printer : new.printer ≡ old.printer
  pub stays : one_step ≡ true → StaysPut old.page new.page

-- a step that has a finding leaves the settings and the cursor
abbrev pub StillFound : {F : Type 0} → Page → Page → Result Unit (Interruption F) → Type 0
StillFound old new (Ok done) = Unit {0}
StillFound old new (Err (Found finding)) = StandsStill old new
StillFound old new (Err (Refused fault)) = Unit {0}

-- the same from before the step began, which may have ended a raster
abbrev pub StaysFound : {F : Type 0} → Page → Page → Result Unit (Interruption F) → Type 0
StaysFound old new (Ok done) = Unit {0}
StaysFound old new (Err (Found finding)) = StaysPut old new
StaysFound old new (Err (Refused fault)) = Unit {0}

-- a finding is that of the step that marked
abbrev pub FoundBy : {T F : Type 0} → Result T Finding → Result Unit (Interruption F) → Type 0
FoundBy marked (Ok done) = Unit {0}
FoundBy marked (Err (Found finding)) = marked ≡ Err finding
FoundBy marked (Err (Refused fault)) = Unit {0}

-- there is no finding
abbrev pub NeverFinds : {F : Type 0} → Result Unit (Interruption F) → Type 0
NeverFinds (Ok done) = Unit {0}
NeverFinds (Err (Found finding)) = ⊥
NeverFinds (Err (Refused fault)) = Unit {0}
