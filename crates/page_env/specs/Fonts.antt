-- Font selection by characteristic:
-- each command sets one part of the request (`ESC (`, `(s#P`, `(s#H`, `(s#V`, `(s#S`, `(s#B`, `(s#T`, `(3@`).
use Rattle.std.specs.Prelude.{ℕ, not, Some, None, is_none, [], ◌∷◌}
use Rattle.pcl_items.specs.Escapes.Value.{Amount}
use Rattle.device_profile.specs.Printer.{Printer}
use Rattle.page_env.specs.declared.finding.Finding.TheVariants.{BadValue, NoFont}
use Rattle.page_env.specs.declared.page.FontParts.{FontParts}
use Rattle.page_env.specs.Settings.{State, with_job, no_parts}
use Rattle.page_env.specs.Numbers.{is_negative, is_whole_between, signed}
use Rattle.page_env.specs.FontInForce.{face_of}
use Rattle.page_env.specs.Places.{column_of}
use Rattle.page_env.specs.Effect.{Check, check, TableLine, moving, setting}

-- no face answers the request
abbrev pub no_font : Printer → State → Check
no_font printer s = check (is_none (face_of printer s)) NoFont

-- columns of no known width: no HMI is set, and no face answers the request
abbrev pub no_column : Printer → State → Check
no_column printer s = check (is_none (column_of printer s)) NoFont

-- the parts that are set; a font command ends the setting of the HMI
abbrev pub with_font : State → FontParts → State
with_font s parts = with_job s (record s.settings.job { font = parts; hmi = None })

-- a part that takes any value that is not negative
abbrev pub set_part : State → Amount → FontParts → TableLine
set_part s n parts = setting (check (is_negative n) BadValue ∷ []) (with_font s parts)

-- `ESC (` symbol set, by number and letter
abbrev pub set_symbol_set : State → Amount → ℕ → TableLine
set_symbol_set s n letter = set_part s n (record s.settings.job.font {
  symbol_set = Some (record { number = n.ten_thousandths; letter = letter });
})

-- `(s#P` primary spacing: 0 is fixed
abbrev pub set_spacing : State → Amount → TableLine
set_spacing s n =
    setting (check (not (is_whole_between 0 0 n)) BadValue ∷ [])
    (with_font s (record s.settings.job.font { spacing = Some n.ten_thousandths }))

-- `(s#H` primary pitch, in characters an inch
abbrev pub set_pitch : State → Amount → TableLine
set_pitch s n = set_part s n (record s.settings.job.font { pitch = Some n.ten_thousandths })

-- `(s#V` primary height, in points
abbrev pub set_height : State → Amount → TableLine
set_height s n = set_part s n (record s.settings.job.font { height = Some n.ten_thousandths })

-- `(s#S` primary style
abbrev pub set_style : State → Amount → TableLine
set_style s n = set_part s n (record s.settings.job.font { style = Some n.ten_thousandths })

-- `(s#B` primary stroke weight, which may be negative
abbrev pub set_weight : State → Amount → TableLine
set_weight s n = moving (with_font s (record s.settings.job.font { weight = Some (signed n) }))

-- `(s#T` primary typeface
abbrev pub set_typeface : State → Amount → TableLine
set_typeface s n = set_part s n (record s.settings.job.font { typeface = Some n.ten_thousandths })

-- `(3@` default font: every part is the panel's again
abbrev pub default_font : State → TableLine
default_font s = moving (with_font s no_parts)
