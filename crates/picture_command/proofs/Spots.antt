-- Where the cursor of a machine stands, and which font it is asked for, as they are told.
use Rattle.std.proofs.Common.{◌≡◌, ℤ, Bool, true, false, Option, None, Some, refl, ap, sym, ◌∙◌, if◌then◌else◌}
use Rattle.std.specs.Prelude.{is_none}
use Rattle.device_profile.specs.declared.field.Field.{Field}
use Rattle.device_profile.specs.declared.font.FontRequest.{FontRequest}
use Rattle.device_profile.specs.Nearest.{nearest_request}
use Rattle.device_profile.specs.Printer.{Printer}
use Rattle.page_env.specs.declared.cursor.Cursor.{Cursor}
use Rattle.page_env.specs.Effect.{first_unset}
use Rattle.page_env.specs.FontInForce.{font_reads, request_of}
use Rattle.page_env.specs.Places.{cursor_reads, x_on_sheet, y_on_sheet}
use Rattle.page_env.specs.Settings.{Settings, State, settings_at, state_at}
use Rattle.page_machine.specs.MachineState.{MachineState}
use Rattle.page_machine.specs.Still.{StopsStill}
use Rattle.judgement.specs.declared.failing_item.MissingFont.{MissingFont}
use Rattle.judgement.specs.declared.failing_item.SheetSpot.{SheetSpot}
use Rattle.renderings.specs.Carriers.PageRendering.{any_panel}
use Rattle.picture_command.specs.PageSearch.{font_of, font_where, spot_of, spot_where}

abbrev spot_at : (x y : ℤ) → SheetSpot
spot_at x y = record { x = x; y = y }

-- no panel decides it
pub spot_known : (printer : Printer) (s : State) (x y : ℤ) → first_unset s.settings (cursor_reads s.cursor.y) ≡ None →
    x ≡ x_on_sheet printer s → y ≡ y_on_sheet printer s → Some (spot_at x y) ≡ spot_of printer s
spot_known printer s x y none x_is y_is =
    let there : SheetSpot = spot_at (x_on_sheet printer s) (y_on_sheet printer s) in
    (λ i. Some (spot_at (x_is i) (y_is i)))
    ∙ sym (ap (λ (f : Option Field). if is_none f then Some there else None) none)

-- this field of a panel does
pub spot_unknown : (printer : Printer) (s : State) (field : Field) → first_unset s.settings (cursor_reads s.cursor.y) ≡ Some field →
    None ≡ spot_of printer s
spot_unknown printer s field some =
    let there : SheetSpot = spot_at (x_on_sheet printer s) (y_on_sheet printer s) in
    sym (ap (λ (f : Option Field). if is_none f then Some there else None) some)

-- a machine that stopped at one step tells what it would have told before
pub spot_still : (machine machine' : MachineState) (one_step : Bool) → StopsStill one_step machine machine' →
    spot_where one_step machine'.printer (state_at any_panel machine'.page)
    ≡ spot_where one_step machine.printer (state_at any_panel machine.page)
spot_still machine machine' false still = refl
spot_still machine machine' true still =
    let there : State = state_at any_panel machine'.page in
    let here : State = state_at any_panel machine.page in
    let put = still.stays refl any_panel in
    ap (λ (p : Printer). spot_of p there) still.printer
    ∙ (ap (λ (k : Settings). spot_of machine.printer (record there { settings = k })) put.0
    ∙ ap (λ (c : Cursor). spot_of machine.printer (record there { settings = here.settings; cursor = c })) put.1)

-- ---- the font

abbrev font_at : FontRequest → Option FontRequest → MissingFont
font_at asked nearest = record { asked = asked; nearest = nearest }

abbrev font_there : Printer → State → MissingFont
font_there printer s = font_at (request_of printer s) (nearest_request printer.faces (request_of printer s))

-- no panel decides it
pub font_known : (printer : Printer) (s : State) (asked : FontRequest) (nearest : Option FontRequest) →
    first_unset s.settings (font_reads s.settings.job.font) ≡ None → request_of printer s ≡ asked →
    nearest ≡ nearest_request printer.faces asked → Some (font_at asked nearest) ≡ font_of printer s
font_known printer s asked nearest none asked_is nearest_is =
    ap (λ (n : Option FontRequest). Some (font_at asked n)) nearest_is
    ∙ (ap (λ (a : FontRequest). Some (font_at a (nearest_request printer.faces a))) (sym asked_is)
    ∙ sym (ap (λ (f : Option Field). if is_none f then Some (font_there printer s) else None) none))

-- this field of a panel does
pub font_unknown : (printer : Printer) (s : State) (field : Field) →
    first_unset s.settings (font_reads s.settings.job.font) ≡ Some field → None ≡ font_of printer s
font_unknown printer s field some =
    sym (ap (λ (f : Option Field). if is_none f then Some (font_there printer s) else None) some)

-- a machine that stopped at one step tells what it would have told before
pub font_still : (machine machine' : MachineState) (one_step : Bool) → StopsStill one_step machine machine' →
    font_where one_step machine'.printer (state_at any_panel machine'.page)
    ≡ font_where one_step machine.printer (state_at any_panel machine.page)
font_still machine machine' false still = refl
font_still machine machine' true still =
    let there : State = state_at any_panel machine'.page in
    let put = still.stays refl any_panel in
    ap (λ (p : Printer). font_of p there) still.printer
    ∙ ap (λ (k : Settings). font_of machine.printer (record there { settings = k })) put.0
