-- Raster graphics (`*t`, `*r`, `*b`), whose rows are not compressed.
use Rattle.std.specs.Prelude.{ℕ, ℤ, pos, ◌*◌, ◌-◌, ◌==◌, nat_lt, not, ◌&&◌, ◌||◌, cond, Bool, true, false, ◌+ℤ◌, int_lt}
use Rattle.std.specs.Prelude.{length, drop, take, reverse, Option, Some, None, is_none, is_some, option_map, unwrap_or}
use Rattle.std.specs.Prelude.{List, [], ◌∷◌}
use Rattle.std.specs.List.{position, position_or_len, find}
use Rattle.std.specs.Option.{option_map_or}
use Rattle.pcl_items.specs.declared.pcl.command.Group.{Group}
use Rattle.pcl_items.specs.declared.pcl.command.Group.TheVariants.{RasterData, Raster, Resolution}
use Rattle.pcl_items.specs.Escapes.Commands.{group_of, data_group_of}
use Rattle.pcl_items.specs.Items.{Entry, Parameterized, WithData}
use Rattle.pcl_items.specs.Escapes.Value.{Amount}
use Rattle.device_profile.specs.declared.field.Field.TheVariants.{Size, Orientation}
use Rattle.device_profile.specs.declared.geometry.Geometry.{Geometry}
use Rattle.device_profile.specs.Printer.{Printer}
use Rattle.page_env.specs.declared.finding.Finding.TheVariants.{BadValue, RasterNotStarted, RasterLocked, RasterTooBig}
use Rattle.page_env.specs.declared.finding.Finding.TheVariants.{RotatedRaster, OffPage, NotPrintable}
use Rattle.page_env.specs.declared.page.Presentation.{Presentation}
use Rattle.page_env.specs.declared.page.Presentation.TheVariants.{LogicalPage, PhysicalPage}
use Rattle.page_env.specs.declared.page.RasterSettings.{RasterSettings}
use Rattle.page_env.specs.declared.page.Resolution.{Resolution as Dots}
use Rattle.page_env.specs.declared.page.Resolution.TheVariants.{Dots75, Dots100, Dots150, Dots200, Dots300, Dots600}
use Rattle.page_env.specs.declared.page.StartedRaster.{StartedRaster}
use Rattle.page_env.specs.Settings.{State, with_job}
use Rattle.page_env.specs.Numbers.{is_whole_between, is_whole_from, whole_of}
use Rattle.page_env.specs.Places.{vertical_place, vertical_reads, geometry_of, x_on_sheet, y_on_sheet}
use Rattle.page_env.specs.Mark.{PixelRow, Shape, Row, pixels_per_inch, pixel_of, black_end, row_bounds, is_inside}
use Rattle.page_env.specs.Effect.{Check, check, TableLine, checking, setting}

-- ---- which items end a raster

abbrev pub is_raster_group : Group → Bool
is_raster_group Resolution = true
is_raster_group Raster = true
is_raster_group RasterData = true
is_raster_group _ = false

-- by the name of its command, whatever its value or effect
abbrev pub is_of_raster : Entry → Bool
is_of_raster (Parameterized command n) = is_raster_group (group_of command)
is_of_raster (WithData command bytes) = is_raster_group (data_group_of command)
is_of_raster _ = false

-- each other item ends the raster as it begins
abbrev pub begun_by : Entry → State → State
begun_by item s = cond (is_of_raster item) s (record s { raster = None })

-- ---- settings, which no item may change while a raster is started

abbrev pub locked : Option StartedRaster → Check
locked raster = check (is_some raster) RasterLocked

abbrev pub with_raster : State → RasterSettings → State
with_raster s raster = with_job s (record s.settings.job { raster = raster })

abbrev pub resolutions : List Dots
resolutions = Dots75 ∷ Dots100 ∷ Dots150 ∷ Dots200 ∷ Dots300 ∷ Dots600 ∷ []

-- the resolution of so many pixels an inch
abbrev pub resolution_of : Amount → Option Dots
resolution_of n = cond (is_whole_from 0 n) (find (λ r. pixels_per_inch r == whole_of n) resolutions) None

-- `*t#R` raster graphics resolution
abbrev pub set_resolution : State → Amount → TableLine
set_resolution s n =
    setting (check (is_none (resolution_of n)) BadValue ∷ locked s.raster ∷ [])
    (with_raster s
    (record s.settings.job.raster { resolution = unwrap_or (resolution_of n) s.settings.job.raster.resolution }))

-- `*r#S` raster width, in pixels
abbrev pub set_raster_width : State → Amount → TableLine
set_raster_width s n =
    setting (check (not (is_whole_from 1 n)) BadValue ∷ locked s.raster ∷ [])
    (with_raster s (record s.settings.job.raster { width = Some (whole_of n) }))

-- `*r#T` raster height, in rows
abbrev pub set_raster_height : State → Amount → TableLine
set_raster_height s n =
    setting (check (not (is_whole_from 1 n)) BadValue ∷ locked s.raster ∷ [])
    (with_raster s (record s.settings.job.raster { height = Some (whole_of n) }))

-- `*r#F` raster graphics presentation: 0 as the logical page lies, 3 along the width of the physical page
abbrev pub presentation_of : Amount → Option Presentation
presentation_of n =
    cond (is_whole_between 0 0 n) (Some LogicalPage) (cond (is_whole_between 3 3 n) (Some PhysicalPage) None)

abbrev pub set_presentation : State → Amount → TableLine
set_presentation s n =
    setting (check (is_none (presentation_of n)) BadValue ∷ locked s.raster ∷ [])
    (with_raster s
    (record s.settings.job.raster { presentation = unwrap_or (presentation_of n) s.settings.job.raster.presentation }))

-- `*b#M` compression method: none
abbrev pub set_compression : State → Amount → TableLine
set_compression s n = checking s (check (not (is_whole_between 0 0 n)) BadValue ∷ [])

-- ---- start and end

abbrev pub is_physical : Presentation → Bool
is_physical LogicalPage = false
is_physical PhysicalPage = true

-- along the physical page a raster does not turn with an orientation
abbrev pub is_rotated : State → Bool
is_rotated s = is_physical s.settings.job.raster.presentation && not (s.settings.fields.orientation == 0)

-- `*r#A` start raster graphics: 0 at the left edge of the logical page, 1 at the cursor. A home becomes a number.
abbrev pub start_raster : State → Amount → TableLine
start_raster s n = record {
  checks_before = check (not (is_whole_between 0 1 n)) BadValue ∷ locked s.raster ∷ [];
  reads = Size ∷ Orientation ∷ vertical_reads s.cursor.y;
  checks_after = check (is_rotated s) RotatedRaster ∷ [];
  state = record s {
    cursor = record { x = cond (whole_of n == 0) (pos 0) s.cursor.x; y = Some (vertical_place s) };
    raster = Some (record { rows_left = s.settings.job.raster.height });
  };
  marks = [];
}

-- `*rB` and `*rC` end raster graphics
abbrev pub end_raster : State → Amount → TableLine
end_raster s n = setting (check (not (is_whole_between 0 0 n)) BadValue ∷ []) (record s { raster = None })

-- ---- rows

abbrev pub not_started : Option StartedRaster → Check
not_started raster = check (is_none raster) RasterNotStarted

-- so many rows are more than the height has left
abbrev pub passes_height : ℕ → StartedRaster → Bool
passes_height rows raster = option_map_or (λ left. nat_lt left rows) raster.rows_left false

-- the raster behind so many rows
abbrev pub raster_behind : ℕ → StartedRaster → StartedRaster
raster_behind rows raster = record { rows_left = option_map (λ left. left - rows) raster.rows_left }

-- the place so many rows below another
abbrev pub place_behind : Dots → ℤ → ℕ → ℤ
place_behind resolution y rows = y +ℤ pos (rows * pixel_of resolution)

abbrev pub rows_down : State → ℕ → State
rows_down s rows = record s {
  cursor = record s.cursor { y = Some (place_behind s.settings.job.raster.resolution (vertical_place s) rows) };
  raster = option_map (raster_behind rows) s.raster;
}

abbrev pub past_foot : Geometry → Dots → ℤ → ℕ → Check
past_foot g resolution y rows = check (int_lt g.logical_height (place_behind resolution y rows)) OffPage

-- `*b#Y` raster Y offset: so many rows that stay white.
-- A started raster has a vertical place, so the VMI is not read here.
abbrev pub skip_rows : Printer → State → Amount → TableLine
skip_rows printer s n = record {
  checks_before =
      check (not (is_whole_between 0 32_767 n)) BadValue ∷ not_started s.raster
      ∷ check (option_map_or (passes_height (whole_of n)) s.raster false) RasterTooBig ∷ [];
  reads = Size ∷ Orientation ∷ vertical_reads s.cursor.y;
  checks_after = past_foot (geometry_of printer s) s.settings.job.raster.resolution (vertical_place s)
      (whole_of n) ∷ [];
  state = rows_down s (whole_of n);
  marks = [];
}

-- a byte with a black pixel
abbrev pub is_black : ℕ → Bool
is_black byte = not (byte == 0)

-- the bytes of a row up to its last one with a black pixel
unfoldable pub up_to_black : List ℕ → List ℕ
up_to_black bytes = option_map_or (λ behind. take (length bytes - behind) bytes) (position is_black (reverse bytes)) []

-- how many bytes come before the first one with a black pixel
unfoldable pub blank_ahead : List ℕ → ℕ
blank_ahead bytes = position_or_len is_black bytes

-- a byte with a black pixel comes before the end
abbrev pub has_black : List ℕ → Bool
has_black bytes = nat_lt (blank_ahead bytes) (length bytes)

-- the last black pixel lies at or past the width
abbrev pub passes_width : RasterSettings → List ℕ → Bool
passes_width raster bytes = option_map_or (λ width. nat_lt width (black_end bytes)) raster.width false

-- A row from this place of the sheet, without blank bytes at both ends;
-- each that was before it moves it by eight pixels.
abbrev pub row_from : Dots → (x y : ℤ) → List ℕ → PixelRow
row_from resolution x y bytes = record {
  resolution = resolution;
  x = x +ℤ pos (8 * blank_ahead bytes * pixel_of resolution);
  y = y;
  bytes = drop (blank_ahead bytes) bytes;
}

-- what may be wrong with a row before the page is known
abbrev pub row_checks : RasterSettings → Option StartedRaster → List ℕ → List Check
row_checks settings raster black =
    not_started raster
    ∷ check (option_map_or (passes_height 1) raster false || passes_width settings black) RasterTooBig ∷ []

-- and on it, where the cursor has this vertical place
abbrev pub place_checks : Geometry → (y : ℤ) → List ℕ → PixelRow → List Check
place_checks g y black row =
    past_foot g row.resolution y 1 ∷ check (has_black black && not (is_inside g (row_bounds row))) NotPrintable ∷ []

-- the mark of a row: none where no byte has a black pixel
abbrev pub marks_of : List ℕ → PixelRow → List Shape
marks_of black row = cond (has_black black) (Row row ∷ []) []

-- `*b#W` transfer raster data: one row at the cursor, which moves a pixel down.
-- A row without a black pixel makes no mark.
abbrev pub print_row : Printer → State → List ℕ → TableLine
print_row printer s bytes =
    let black = up_to_black bytes in
    let row = row_from s.settings.job.raster.resolution (x_on_sheet printer s) (y_on_sheet printer s) black in
    record {
      checks_before = row_checks s.settings.job.raster s.raster black;
      reads = Size ∷ Orientation ∷ vertical_reads s.cursor.y;
      checks_after = place_checks (geometry_of printer s) (vertical_place s) black row;
      state = record (rows_down s 1) { marked = has_black black || s.marked };
      marks = marks_of black row;
    }
