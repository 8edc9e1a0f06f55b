-- What is chosen at the panel of a printer, and what is told of a choice that it may not have.
use Rattle.std.specs.Prelude.{◌≡◌, ℕ, ◌==◌, Bool, List, [], ◌∷◌, ◌++◌, flat_map, codes, Result, Ok, Err, ⊤}
use Rattle.std.specs.Prelude.{if◌then◌else◌}
use Rattle.std.specs.List.{list_any}
use Rattle.device_profile.specs.declared.field.Field.{Field}
use Rattle.device_profile.specs.declared.field.Field.TheVariants.{Size, Orientation, Vmi, Font, Copies, Sides, Tray}
use Rattle.device_profile.specs.declared.field.Field.TheVariants.{LineTerm}
use Rattle.device_profile.specs.declared.panel.Panel.{Panel}
use Rattle.device_profile.specs.Field.{field_key, has_decimals}
use Rattle.device_profile.specs.Printer.{Printer, values_of, first_panel}
use Rattle.line_words.specs.Figures.{number_word, value_word}
use Rattle.streams.specs.declared.error.Error.TheVariants.{Memory}
use Rattle.streams.specs.Outlet.{OutletState}
use Rattle.streams.specs.Writing.{Writes}
use Rattle.requests.specs.declared.choices.Choice.{Choice}
use Rattle.requests.specs.declared.status.Status.{Status}
use Rattle.requests.specs.declared.status.Status.TheVariants.{NotAllowed, Stopped}

-- the panel has this value in this field
abbrev pub with_value : Panel → ℕ → Field → Panel
with_value panel value Size = record panel { size = value }
with_value panel value Orientation = record panel { orientation = value }
with_value panel value Vmi = record panel { vmi = value }
with_value panel value Font = record panel { font = value }
with_value panel value Copies = record panel { copies = value }
with_value panel value Sides = record panel { sides = value }
with_value panel value Tray = record panel { tray = value }
with_value panel value LineTerm = record panel { line_termination = value }

abbrev pub with_choice : Panel → Choice → Panel
with_choice panel choice = with_value panel choice.value choice.field

-- whether the printer's panel may have it
abbrev pub is_choice : Printer → Choice → Bool
is_choice printer choice = list_any (λ value. value == choice.value) (values_of printer choice.field)

-- the panel with each chosen value in its field, or the first choice that it may not have
abbrev pub chosen_from : Printer → Panel → List Choice → Result Panel Choice
chosen_from printer panel [] = Ok panel
chosen_from printer panel (choice ∷ choices) =
    if is_choice printer choice then chosen_from printer (with_choice panel choice) choices else Err choice

-- so with the first panel
abbrev pub chosen_panel : Printer → List Choice → Result Panel Choice
chosen_panel printer choices = chosen_from printer (first_panel printer) choices

-- ---- the line of a choice that the panel may not have

-- a value behind a space, as a profile's text has it
abbrev pub choice_word : Field → ℕ → List ℕ
choice_word field value = if has_decimals field then value_word value else number_word value

abbrev pub choice_line : Printer → Choice → List ℕ
choice_line printer choice =
    codes "error: --panel: PROFILE does not allow " ++ field_key choice.field ++ choice_word choice.field choice.value
    ++ codes "; it allows" ++ flat_map (choice_word choice.field) (values_of printer choice.field) ++ codes "\n"

-- what is told on standard error of a choice that the panel may not have: its line; without memory for it nothing
abbrev pub TellsOfChoice : Status → Printer → Choice → OutletState → OutletState → Type 0
TellsOfChoice (NotAllowed told) printer choice old new = (told ≡ choice) × Writes old new (choice_line printer choice)
TellsOfChoice (Stopped Memory) printer choice old new = ⊤
TellsOfChoice _ printer choice old new = ⊥

-- what `pin` writes on standard error where it ends for a choice, for a printer with this fact
abbrev pub TellsOfPin : Status → (Printer → Type 0) → List Choice → OutletState → OutletState → Type 0
TellsOfPin (NotAllowed choice) IsPrinter choices old new =
    (printer : Printer) × IsPrinter printer × (chosen_panel printer choices ≡ Err choice)
    × Writes old new (choice_line printer choice)
TellsOfPin _ IsPrinter choices old new = ⊤
