-- What a finding leaves.
use Rattle.std.proofs.Common.{◌≡◌, List, ℕ, true, false, Result, Ok, Err, refl, ap, sym, ◌∙◌, subst}
use Rattle.std.specs.Result.{IsErrAnd}
use Rattle.device_profile.specs.declared.panel.Panel.{Panel}
use Rattle.pcl_items.specs.declared.pcl.command.DataCommand.{DataCommand}
use Rattle.pcl_items.specs.declared.pcl.command.DataCommand.TheVariants.{RasterRow, TransparentText}
use Rattle.pcl_items.specs.Items.{WithData}
use Rattle.page_env.specs.declared.finding.Finding.{Finding}
use Rattle.page_env.specs.declared.page.Page.{Page}
use Rattle.page_env.specs.declared.table.PageCommand.TheVariants.{Sides, Source, Size, Orientation, MacroControl}
use Rattle.page_env.specs.declared.table.PageItem.{PageItem}
use Rattle.page_env.specs.declared.table.PageItem.TheVariants as pages
use Rattle.page_env.specs.Action.{page_view}
use Rattle.page_env.specs.Answers.{LeavesFound, marked_at}
use Rattle.page_env.specs.Effect.{Fails, Goes}
use Rattle.page_env.specs.Mark.{Shape}
use Rattle.page_env.specs.Settings.{settings_at, state_at}
use Rattle.page_machine.specs.declared.stop.Stop.{Stop}
use Rattle.page_machine.specs.declared.stop.Stop.TheVariants as stops
use Rattle.page_machine.specs.declared.steps.Interruption.{Interruption}
use Rattle.page_machine.specs.declared.steps.Interruption.TheVariants.{Found, Refused}
use Rattle.page_machine.specs.Machine.{Carrying, StaysAtStop, stop_of}
use Rattle.page_machine.specs.MachineState.{MachineState}
use Rattle.page_machine.specs.Still.{FoundBy, NeverFinds, StaysFound, StillFound, is_one_step}

-- a panel, whichever it is
pub any_panel : Panel
any_panel = record { size = 0; orientation = 0; vmi = 0; font = 0; copies = 0; sides = 0; tray = 0; line_termination = 0 }

-- ---- a step

-- what hands over what a step marked has its finding
pub still_handed : {T F : Type 0} (old new : Page) (marked : Result T Finding) (result : Result Unit (Interruption F)) →
    FoundBy marked result →
    LeavesFound old new marked → StillFound old new result
still_handed old new marked (Ok done) by leaves = tt
still_handed old new marked (Err (Found finding)) by leaves = subst (λ r. LeavesFound old new r) by leaves
still_handed old new marked (Err (Refused fault)) by leaves = tt

-- its marks are those of its answer
pub still_marked : {T U : Type 0} (shapes : T → List Shape) (shapes' : U → List Shape) (old new : Page) (answer : Result T Finding)
    (marked : Result U Finding) →
    ((panel : Panel) (page : Page) → marked_at shapes panel page answer ≡ marked_at shapes' panel page marked) →
    LeavesFound old new answer → LeavesFound old new marked
still_marked shapes shapes' old new answer (Ok mark) same leaves = tt
still_marked shapes shapes' old new (Ok mark) (Err finding) same leaves =
    let both : Goes (state_at any_panel old) (shapes mark) ≡ Fails finding = same any_panel old in absurd cc
still_marked shapes shapes' old new (Err found) (Err finding) same leaves = leaves

-- a hand over that finds nothing has the finding of what was marked
pub none_found : {T F : Type 0} (marked : Result T Finding) (result : Result Unit (Interruption F)) → NeverFinds result →
    FoundBy marked result
none_found marked (Ok done) never = tt
none_found marked (Err (Found finding)) never = absurd never
none_found marked (Err (Refused fault)) never = tt

-- an answer that a `?` hands on
pub still_handed_on : {F : Type 0} (old new : Page) (halt : Interruption F) (result : Result Unit (Interruption F)) →
    IsErrAnd result (λ h. h ≡ halt) →
    StillFound old new (Err halt) → StillFound old new result
still_handed_on old new halt (Ok done) is still = absurd is
still_handed_on old new halt (Err other) is still = subst (λ h. StillFound old new (Err h)) (sym is) still

-- data that are one step are a row
pub row_alone : (command : DataCommand) (bytes : List ℕ) → is_one_step (WithData command bytes) ≡ true → command ≡ RasterRow
row_alone RasterRow bytes one = refl
row_alone TransparentText bytes one = absurd cc

-- ---- a call of a machine

-- an item that may close the page is more than one step
pub page_steps : (item : PageItem) → is_one_step (page_view item) ≡ false
page_steps pages.CarriageReturn = refl
page_steps pages.LineFeed = refl
page_steps pages.HalfLineFeed = refl
page_steps pages.FormFeed = refl
page_steps pages.Reset = refl
page_steps pages.ExitLanguage = refl
page_steps (pages.Command Sides n) = refl
page_steps (pages.Command Source n) = refl
page_steps (pages.Command Size n) = refl
page_steps (pages.Command Orientation n) = refl
page_steps (pages.Command MacroControl n) = refl

module _ {F : Type 0} (what : Carrying) (old new : MachineState) (printer : new.printer ≡ old.printer) where
  pub halt_stays : (halt : Interruption F) → (what.one_step ≡ true → StaysFound old.page new.page (Err halt)) →
      StaysAtStop what old new (stop_of halt)
  halt_stays (Found finding) stays = record { printer = printer; stays = stays }
  halt_stays (Refused fault) stays = tt

  -- a call of more than one step owes nothing of the page
  pub many_steps : (stop : Stop F) → what.one_step ≡ false → StaysAtStop what old new stop
  many_steps (stops.Found finding) many =
      record { printer = printer; stays = λ one. let both : false ≡ true = sym many ∙ one in absurd cc }
  many_steps (stops.Refused fault) many = tt
  many_steps (stops.Memory error) many = tt
  many_steps stops.Stopped many = tt

  -- and one that leaves the page keeps all
  pub page_stays : (stop : Stop F) → new.page ≡ old.page → StaysAtStop what old new stop
  page_stays (stops.Found finding) same =
      record { printer = printer; stays = λ one panel. (ap (λ (p : Page). settings_at panel p.env) same, ap (λ (p : Page). p.cursor) same) }
  page_stays (stops.Refused fault) same = tt
  page_stays (stops.Memory error) same = tt
  page_stays stops.Stopped same = tt
