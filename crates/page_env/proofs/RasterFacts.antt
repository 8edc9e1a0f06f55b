-- Facts of rasters.
use Rattle.std.proofs.Common.{◌≡◌, ◌&&◌, ◌||◌, ℕ, Bool, true, false, not, cond, Some, None, List, [], ◌∷◌, refl}
use Rattle.pcl_items.specs.Escapes.Value.{Amount}
use Rattle.device_profile.specs.Printer.{Printer}
use Rattle.device_profile.specs.declared.geometry.Geometry.{Geometry}
use Rattle.page_env.specs.declared.finding.Finding.TheVariants.{OffPage, NotPrintable}
use Rattle.page_env.specs.Settings.{State}
use Rattle.page_env.specs.Mark.{PixelRow, Row, row_bounds, is_inside}
use Rattle.page_env.specs.Places.{geometry_of, x_on_sheet, y_on_sheet}
use Rattle.page_env.specs.Rasters.{start_raster, skip_rows, up_to_black, has_black, row_from, print_row}
use Rattle.page_env.specs.Sound.{plain_state, AreInside, IsSound}
use Rattle.page_env.proofs.Sound.{quiet, page_and_vertical_rise}

-- a row of which nothing is found lies inside
row_inside : (off black inside : Bool) (g : Geometry) (row : PixelRow) → is_inside g (row_bounds row) ≡ inside →
    cond off (Some OffPage) (cond (black && not inside) (Some NotPrintable) None) ≡ None → AreInside g (cond black (Row row ∷ []) [])
row_inside true black inside g row is none = absurd cc
row_inside false false inside g row is none = tt
row_inside false true true g row is none = (is, tt)
row_inside false true false g row is none = absurd cc

-- a page that stays without a mark gets no row
row_unmarked : (black marked : Bool) (row : PixelRow) → (black || marked) ≡ false → (marked ≡ false) × (cond black (Row row ∷ []) [] ≡ [])
row_unmarked true marked row e = absurd cc
row_unmarked false marked row e = (e, refl)

module _ (printer : Printer) (s : State) where
  pub start_is_sound : (n : Amount) → IsSound printer s (start_raster s n) (start_raster (plain_state s) n)
  start_is_sound n = quiet (page_and_vertical_rise s.cursor.y) refl refl refl refl refl refl refl

  pub skip_is_sound : (n : Amount) → IsSound printer s (skip_rows printer s n) (skip_rows printer (plain_state s) n)
  skip_is_sound n = quiet (page_and_vertical_rise s.cursor.y) refl refl refl refl refl refl refl

  pub row_is_sound : (bytes : List ℕ) → IsSound printer s (print_row printer s bytes) (print_row printer (plain_state s) bytes)
  row_is_sound bytes =
      let g = geometry_of printer s in
      let black = up_to_black bytes in
      let row = row_from s.settings.job.raster.resolution (x_on_sheet printer s) (y_on_sheet printer s) black in
      record {
        same = refl;
        ordered = refl;
        reads_ordered = page_and_vertical_rise s.cursor.y;
        unmarked = λ e. row_unmarked (has_black black) s.marked row e;
        inside = λ none. row_inside _ (has_black black) (is_inside g (row_bounds row)) g row refl none;
        size = refl;
        orientation = refl;
        room = λ none h. h;
      }
