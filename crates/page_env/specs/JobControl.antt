-- Job control: number of copies, simplex and duplex, unit of measure, reset (`&l#X`, `&l#S`, `&u#D`, `ESC E`).
use Rattle.std.specs.Prelude.{nat_lt, ◌==◌, ◌&&◌, not, Bool, true, false, List, [], ◌∷◌}
use Rattle.std.specs.List.{list_any}
use Rattle.tick_length.specs.UnitsPerInch.{units_per_inch}
use Rattle.pcl_items.specs.Items.{Entry, Reset, ExitLanguage}
use Rattle.pcl_items.specs.Escapes.Value.{Amount}
use Rattle.device_profile.specs.Printer.{Printer}
use Rattle.page_env.specs.declared.finding.Finding.TheVariants.{BadValue, NotOnDevice}
use Rattle.page_env.specs.Settings.{Settings, State, home_cursor, start_state, with_job}
use Rattle.page_env.specs.Numbers.{is_whole_between, is_whole_from, whole_of}
use Rattle.page_env.specs.Effect.{Check, check, TableLine, moving, setting, Transition, Closes}

-- `&l#X` number of copies
abbrev pub set_copies : State → Amount → TableLine
set_copies s n = setting (check (not (is_whole_between 1 32_767 n)) BadValue ∷ []) (record s {
  settings = record s.settings {
    fields = record s.settings.fields { copies = whole_of n };
    unset = record s.settings.unset { copies = false };
  };
})

-- `&l#S` simplex or duplex: 1 and 2 where the device prints on both sides
abbrev pub sides_checks : Printer → Amount → List Check
sides_checks printer n =
    check (not (is_whole_between 0 2 n)) BadValue
    ∷ check (nat_lt 0 (whole_of n) && not printer.has_duplex) NotOnDevice ∷ []

abbrev pub set_sides : State → Amount → State
set_sides s n = record s {
  settings = record s.settings {
    fields = record s.settings.fields { sides = whole_of n };
    unset = record s.settings.unset { sides = false };
  };
  cursor = home_cursor;
}

-- `&u#D` unit of measure: so many PCL units an inch
abbrev pub set_units : State → Amount → TableLine
set_units s n =
    setting (check (not (is_whole_from 0 n && list_any (λ units. units == whole_of n) units_per_inch)) BadValue ∷ [])
    (with_job s (record s.settings.job { units_per_inch = whole_of n }))

-- `ESC E`, and the end of the bytes: all settings are the user defaults again; what macros carried out stays counted
abbrev pub reset : Settings → State → Transition
reset defaults s = Closes (moving s) true (λ t. start_state t.items_left defaults)

-- a reset, or the universal exit, which resets before it leaves the language
abbrev pub is_reset : Entry → Bool
is_reset Reset = true
is_reset ExitLanguage = true
is_reset _ = false
