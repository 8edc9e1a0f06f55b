-- Where a started raster lies: it has a vertical place, so its rows and its skips read no VMI.
use Rattle.std.specs.Prelude.{◌≡◌, ℕ, ℤ, true, false, List, [], ◌∷◌, Option, None, Some}
use Rattle.pcl_items.specs.Items.{Entry}
use Rattle.pcl_items.specs.Escapes.Value.{Amount}
use Rattle.device_profile.specs.declared.field.Field.TheVariants.{Size, Orientation}
use Rattle.device_profile.specs.Printer.{Printer}
use Rattle.page_env.specs.declared.page.StartedRaster.{StartedRaster}
use Rattle.page_env.specs.Effect.{Transition, Step, Closes, Ends, Behind, Controls}
use Rattle.page_env.specs.Pens.{move_pen}
use Rattle.page_env.specs.Rasters.{is_of_raster, skip_rows, print_row}
use Rattle.page_env.specs.Settings.{Settings, State}
use Rattle.page_env.specs.Table.{transition_of}
use Rattle.page_env.specs.Text.{print_transparent}

-- no raster is started
abbrev pub HasNone : State → Type 0
HasNone s = s.raster ≡ None

abbrev pub IsPlaced : Option StartedRaster → Option ℤ → Type 0
IsPlaced None y = Unit {0}
IsPlaced (Some raster) None = ⊥
IsPlaced (Some raster) (Some y) = Unit {0}

-- if a raster is started, the cursor is not at home
abbrev pub HasPlace : State → Type 0
HasPlace s = IsPlaced s.raster s.cursor.y

-- a transition behind which none is started; the closing of a page leaves none
abbrev pub LeavesNone : Transition → Type 0
LeavesNone (Step line) = HasNone line.state
LeavesNone (Closes line sets_paper change) = HasNone line.state × ((t : State) → HasNone t → HasNone (change t))
LeavesNone (Ends line) = HasNone line.state
LeavesNone (Behind reads transition) = LeavesNone transition
LeavesNone (Controls s n) = HasNone s

-- a step behind which a raster that is started has a place
abbrev pub LeavesPlace : Transition → Type 0
LeavesPlace (Step line) = HasPlace line.state
LeavesPlace _ = ⊥

-- Each item but those of rasters ends a raster as it begins, and starts none, nor does what is printed or drawn behind
-- its step; and where a raster has a place, it has one behind each item of rasters. So a row or a skip of a started
-- raster reads the size and the orientation alone.
pub record RastersHavePlaces (printer : Printer) (defaults : Settings) : Type 0 where
  pub others : (item : Entry) → is_of_raster item ≡ false → (s : State) → HasNone s →
      LeavesNone (transition_of printer defaults s item)
  pub bytes : (code : ℕ) (s : State) → HasNone s → HasNone (print_transparent printer s code).state
  pub moves : (to : ℤ × ℤ) (s : State) → HasNone s → HasNone (move_pen printer s to).state
  pub rasters : (item : Entry) → is_of_raster item ≡ true → (s : State) → HasPlace s →
      LeavesPlace (transition_of printer defaults s item)
  pub skips : (n : Amount) (s : State) (raster : StartedRaster) → s.raster ≡ Some raster → HasPlace s →
      (skip_rows printer s n).reads ≡ Size ∷ Orientation ∷ []
  pub rows : (data_bytes : List ℕ) (s : State) (raster : StartedRaster) → s.raster ≡ Some raster → HasPlace s →
      (print_row printer s data_bytes).reads ≡ Size ∷ Orientation ∷ []
